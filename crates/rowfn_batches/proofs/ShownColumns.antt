-- Columns that are replaced, one after the other, by what is shown of them.
use Rattle.std.proofs.Common.{◌≡◌, ◌≢◌, ◌∙◌, ◌⊎◌, inl, inr, ℕ, zero, suc, ◌+◌, ◌<◌, ◌≤◌, List, [], ◌∷◌}
use Rattle.std.proofs.Common.{Option, Some, None, length, refl, sym, ap, subst, arith}
use Rattle.std.proofs.Common.{if◌then◌else◌}
use Rattle.std.specs.Prelude.{slice_get, slice_set, nat_lt}
use Rattle.std.proofs.lemmas.Bool.{cases_lt}
use Rattle.std.proofs.lemmas.Option.{slice_get_within}
use Rattle.vortex_functions.specs.Binding.{IsLeaf, IsLeafAt}
use Rattle.vortex_interface.specs.Trees.{leaf, place, held, constant, call}
use Rattle.vortex_columns.specs.ColumnView.{ColumnView}
use Rattle.vortex_logical.specs.declared.kind.Kind.{Kind}
use Rattle.vortex_logical.specs.declared.kind.Kind.TheVariants.{Plain}
use Rattle.vortex_expressions.specs.Items.{Tree}
use Rattle.vortex_program.specs.declared.answer.Answer.{Answer}
use Rattle.rowfn_batches.specs.Fields.{Field}
use Rattle.rowfn_batches.specs.declared.errors.StreamError.{StreamError}
use Rattle.rowfn_batches.specs.Showing.{lone_column, ShowsValues, ShowsAnswer, ShowsAt, Shows, Lacks}
use Rattle.rowfn_batches.specs.Showing.{Hides, ArePair, LacksAnswer, IsHidden, TellsLong}
use Rattle.rowfn_batches.specs.declared.errors.StreamError.TheVariants as end
use Rattle.rowfn_batches.specs.declared.request.Request.{Request}
use Rattle.rowfn_batches.specs.BatchAnswers.{AreValues, IsUnserved, width_of, first_fields, answers_asked}

-- the texts of an answer that are too long end the rows
unserved_long : (x : Request) (fs : List Field) (n k : ℕ) (values : List ColumnView) (e : StreamError)
    → AreValues x fs n values
    → (h : Hides (width_of x) (first_fields x fs n) n (answers_asked x) values k e)
    → TellsLong h.answer e → IsUnserved x fs e
unserved_long x fs n k values (end.TextsTooLong name) are h told = (n, k, values, are, h)
unserved_long x fs n k values e are h told = absurd told

pub unserved_shown : (x : Request) (fs : List Field) (n k : ℕ) (values : List ColumnView)
    (e : StreamError)
    → AreValues x fs n values
    → (e ≡ end.OutOfMemory) ⊎ Hides (width_of x) (first_fields x fs n) n (answers_asked x) values k e
    → IsUnserved x fs e
unserved_shown x fs n k values e are (inl is) = subst (IsUnserved x fs) (sym is) tt
unserved_shown x fs n k values e are (inr h) = unserved_long x fs n k values e are h h.told

-- a tree that is a column, or none
pub lone_at : (w : ℕ) (t : Tree) (p : ℕ) → IsLeafAt p t
    → lone_column w t ≡ (if nat_lt p w then Some p else None)
lone_at w (leaf (place q name u)) p h = ap (λ (n : ℕ). if nat_lt n w then Some n else None) (sym h)
lone_at w (leaf (held c)) p h = absurd h
lone_at w (constant s) p h = absurd h
lone_at w (call f ts) p h = absurd h

pub lone_none : (w : ℕ) (t : Tree) → ¬ IsLeaf t → lone_column w t ≡ None
lone_none w (leaf l) h = absurd (h tt)
lone_none w (constant s) h = refl
lone_none w (call f ts) h = refl

set_same : {A : Type 0} (xs : List A) (k : ℕ) (a : A) → k < length xs
    → slice_get (slice_set xs k a) k ≡ Some a
set_same [] k a h = absurd (omega (arith, h))
set_same (x ∷ xs) zero a h = refl
set_same (x ∷ xs) (suc k) a h = set_same xs k a (omega (arith, h))

set_other : {A : Type 0} (xs : List A) (k j : ℕ) (a : A) → j ≢ k
    → slice_get (slice_set xs k a) j ≡ slice_get xs j
set_other [] k j a h = refl
set_other (x ∷ xs) zero zero a h = absurd (h refl)
set_other (x ∷ xs) zero (suc j) a h = refl
set_other (x ∷ xs) (suc k) zero a h = refl
set_other (x ∷ xs) (suc k) (suc j) a h = set_other xs k j a (λ e. h (ap suc e))

set_count : {A : Type 0} (xs : List A) (k : ℕ) (a : A)
    → length (slice_set xs k a) ≡ length xs
set_count [] k a = refl
set_count (x ∷ xs) zero a = refl
set_count (x ∷ xs) (suc k) a = omega (arith, set_count xs k a)

module _ (w : ℕ) (fs : List Field) (n : ℕ) where
  plain_shown : (k : Kind) (j : Option ℕ) (v s : ColumnView) → k ≡ Plain → s ≡ v
      → ShowsValues w fs n k j v s
  plain_shown k j v s plain same =
      subst (λ (m : Kind). ShowsValues w fs n m j v s) (sym plain) same

  module _ (answers : List Answer) (old : List ColumnView) (k : ℕ) where
    -- there is no such answer
    pub shown_none : slice_get answers k ≡ None → ShowsAt w fs n answers old k old
    shown_none none = record {
      count = refl;
      others = λ j other. refl;
      here = λ a v s written there now. absurd (cc (sym none ∙ written));
    }

    -- plain values stay
    pub shown_plain : (b : Answer) → slice_get answers k ≡ Some b → b.kind ≡ Plain
        → ShowsAt w fs n answers old k old
    shown_plain b is plain = record {
      count = refl;
      others = λ j other. refl;
      here = λ a v s written there now.
          let one : b ≡ a = cc (sym is ∙ written) in
          let same : s ≡ v = cc (sym now ∙ there) in
          subst (λ (c : Answer). ShowsAnswer w fs n c v s) one
          (plain_shown b.kind (lone_column w b.tree) v s plain same);
    }

    -- the texts of an answer are too long, or a value has none
    pub hidden_at : (a : Answer) (v : ColumnView) (e : StreamError) → ArePair answers old k a v
        → IsHidden w fs n a v e → (e ≡ end.OutOfMemory) ⊎ Hides w fs n answers old k e
    hidden_at a v e pair (inl is) = inl is
    hidden_at a v e pair (inr h) =
        inr (record { answer = a; value = v; pair = pair; hides = h.0; told = h.1 })

    pub lacks_at : (a : Answer) (v : ColumnView) (i : ℕ) → ArePair answers old k a v
        → LacksAnswer w fs n a v i → Lacks w fs n answers old k i a
    lacks_at a v i pair h = record { value = v; pair = pair; lacks = h }

    -- others are replaced
    pub shown_texts : (b : Answer) (value texts : ColumnView) → k < length old
        → slice_get answers k ≡ Some b → slice_get old k ≡ Some value
        → ShowsAnswer w fs n b value texts → ShowsAt w fs n answers old k (slice_set old k texts)
    shown_texts b value texts within is was shows = record {
      count = set_count old k texts;
      others = λ j other. set_other old k j texts other;
      here = λ a v s written there now.
          let one : b ≡ a = cc (sym is ∙ written) in
          let old_one : value ≡ v = cc (sym was ∙ there) in
          let new_one : texts ≡ s = cc (sym (set_same old k texts within) ∙ now) in
          subst (λ (c : Answer). ShowsAnswer w fs n c v s) one
          (subst (λ (c : ColumnView). ShowsAnswer w fs n b v c) new_one
          (subst (λ (c : ColumnView). ShowsAnswer w fs n b c texts) old_one shows));
    }

  -- the first k columns are replaced
  module _ (answers : List Answer) (values : List ColumnView) where
    pub record AreReplaced (k : ℕ) (now : List ColumnView) : Type 0 where
      pub count : length now ≡ length values
      pub each : (j : ℕ) (a : Answer) (v s : ColumnView) → j < k → slice_get answers j ≡ Some a
          → slice_get values j ≡ Some v → slice_get now j ≡ Some s → ShowsAnswer w fs n a v s
      pub rest : (j : ℕ) → k ≤ j → slice_get now j ≡ slice_get values j

    pub none_replaced : AreReplaced 0 values
    none_replaced = record {
      count = refl;
      each = λ j a v s lt written there now. absurd (omega (arith, lt));
      rest = λ j le. refl;
    }

    pub one_replaced : (k : ℕ) (now next : List ColumnView) → AreReplaced k now
        → ShowsAt w fs n answers now k next → AreReplaced (k + 1) next
    one_replaced k now next h one = record {
      count = one.count ∙ h.count;
      each = λ j a v s lt written there shown.
          by j a v s written there shown lt (cases_lt j k);
      rest = λ j le. one.others j (omega (arith, le)) ∙ h.rest j (omega (arith, le));
    }
      where
        by : (j : ℕ) (a : Answer) (v s : ColumnView) → slice_get answers j ≡ Some a
            → slice_get values j ≡ Some v → slice_get next j ≡ Some s → j < k + 1
            → (j < k) ⊎ (k ≤ j) → ShowsAnswer w fs n a v s
        by j a v s written there shown lt (inl less) =
            h.each j a v s less written there
            (sym (one.others j (omega (arith, less))) ∙ shown)
        by j a v s written there shown lt (inr more) =
            let same : j ≡ k = omega (arith, lt, more) in
            one.here a v s (ap (slice_get answers) (sym same) ∙ written)
            (h.rest k (omega arith) ∙ ap (slice_get values) (sym same) ∙ there)
            (ap (slice_get next) (sym same) ∙ shown)

    pub all_replaced : (k : ℕ) (now : List ColumnView) → length values ≤ k → AreReplaced k now
        → Shows w fs n answers values now
    all_replaced k now le h = record {
      count = h.count;
      each = λ j a v s written there shown.
          by j a v s written there shown (cases_lt j k);
    }
      where
        by : (j : ℕ) (a : Answer) (v s : ColumnView) → slice_get answers j ≡ Some a
            → slice_get values j ≡ Some v → slice_get now j ≡ Some s
            → (j < k) ⊎ (k ≤ j) → ShowsAnswer w fs n a v s
        by j a v s written there shown (inl less) = h.each j a v s less written there shown
        by j a v s written there shown (inr more) =
            absurd (omega (arith, more, le, slice_get_within values j v there))

    -- where a column that is not yet replaced has no texts, the values have none
    pub lacking : (k i : ℕ) (a : Answer) (now : List ColumnView) → AreReplaced k now
        → Lacks w fs n answers now k i a → Lacks w fs n answers values k i a
    lacking k i a now h lacks = record {
      value = lacks.value;
      pair = record {
        written = lacks.pair.written;
        there = sym (h.rest k (omega arith)) ∙ lacks.pair.there;
      };
      lacks = lacks.lacks;
    }

    hiding : (k : ℕ) (e : StreamError) (now : List ColumnView) → AreReplaced k now
        → Hides w fs n answers now k e → Hides w fs n answers values k e
    hiding k e now h hides = record {
      answer = hides.answer;
      value = hides.value;
      pair = record {
        written = hides.pair.written;
        there = sym (h.rest k (omega arith)) ∙ hides.pair.there;
      };
      hides = hides.hides;
      told = hides.told;
    }

    pub hidden : (k : ℕ) (e : StreamError) (now : List ColumnView) → AreReplaced k now
        → (e ≡ end.OutOfMemory) ⊎ Hides w fs n answers now k e
        → (e ≡ end.OutOfMemory) ⊎ Hides w fs n answers values k e
    hidden k e now h (inl is) = inl is
    hidden k e now h (inr hides) = inr (hiding k e now h hides)
