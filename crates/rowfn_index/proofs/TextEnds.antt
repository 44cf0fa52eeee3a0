-- Texts that are cut off, in the order of texts.
use Rattle.std.proofs.Common.{◌≡◌, ◌++◌, ◌∷◌, ◌+◌, ◌⊎◌, inl, inr, ℕ, [], List, true, refl, sym, ap, subst, ◌∙◌, arith, rules, take, drop}
use Rattle.std.specs.Prelude.{slice_range}
use Rattle.std.proofs.Common.{◌<◌, suc, length, get_or}
use Rattle.std.proofs.lemmas.List.{take-append-drop}
use Rattle.std.proofs.Math.Seq.{drop-cons}
use Rattle.std.proofs.lemmas.Str.{encode_ascii}
use lib.Utf8.{encode}
use Rattle.std.specs.declared.cmp.Ordering.{Ordering}
use Rattle.std.specs.declared.cmp.Ordering.TheVariants.{Less, Equal, Greater}
use Rattle.std.specs.Ordering.{is_le, nat_cmp, ordering_then}
use Rattle.std.specs.Cmp.Lexicographic.{slice_cmp}
use Rattle.std.specs.Cmp.{nat_cmp_is}
use Rattle.vortex_types.specs.Values.{Value, text}
use Rattle.vortex_statistics.specs.StatisticsView.{is_at_most}
use Rattle.vortex_statistics.proofs.ValueOrder.{at_most_itself}
use Rattle.std.specs.Prelude.{Option, Some, IfSome, String, string_bytes}
use Rattle.std.specs.declared.alloc.Global.{Global}
use Rattle.vortex_types.specs.ValueOf.{value_of}
use Rattle.vortex_types.specs.declared.scalar_value.ScalarValue.{ScalarValue, the_lemmas}
use Rattle.vortex_types.specs.declared.scalar_value.ScalarValue.TheVariants.{Utf8}
use Rattle.rowfn_index.specs.Ends.{BeginsWith, IsRaised, IsTextAbove}

range_take : (bs : List ℕ) (n : ℕ) → slice_range bs 0 n ≡ take n bs
range_take bs n = search rules

same_first : (x : ℕ) (o : Ordering) → ordering_then (nat_cmp x x) o ≡ o
same_first x o = ap (λ (c : Ordering). ordering_then c o) (sym (nat_cmp_is x x Equal refl))

prefix_at_most : (xs ys : List ℕ) → is_le (slice_cmp nat_cmp xs (xs ++ ys)) ≡ true
prefix_at_most [] [] = refl
prefix_at_most [] (y ∷ ys) = refl
prefix_at_most (x ∷ xs) ys =
    ap is_le (same_first x (slice_cmp nat_cmp xs (xs ++ ys))) ∙ prefix_at_most xs ys

raised_first : (x : ℕ) (o : Ordering) → is_le (ordering_then (nat_cmp x (x + 1)) o) ≡ true
raised_first x o =
    ap (λ (c : Ordering). is_le (ordering_then c o)) (sym (nat_cmp_is x (x + 1) Less (omega arith)))

raised_at_least : (xs ys : List ℕ) (x : ℕ)
    → is_le (slice_cmp nat_cmp (xs ++ (x ∷ ys)) (xs ++ ((x + 1) ∷ []))) ≡ true
raised_at_least [] ys x = raised_first x (slice_cmp nat_cmp ys [])
raised_at_least (w ∷ ws) ys x =
    ap is_le (same_first w (slice_cmp nat_cmp (ws ++ (x ∷ ys)) (ws ++ ((x + 1) ∷ []))))
    ∙ raised_at_least ws ys x

-- the bytes up to a place begin a text
pub begins_range : (bs : List ℕ) (n : ℕ) (p : List ℕ) → p ≡ slice_range bs 0 n → BeginsWith bs p
begins_range bs n p e =
    record {
      rest = drop n bs;
      is = sym (take-append-drop n bs) ∙ ap (λ (xs : List ℕ). xs ++ drop n bs) (sym (e ∙ range_take bs n));
    }

-- a byte of ASCII is raised after the bytes before it
pub raised_by : (bs : List ℕ) (n b : ℕ) (prefix pushed : List ℕ) → n < length bs
    → b ≡ get_or bs n 0 → b < 127 → prefix ≡ slice_range bs 0 n
    → pushed ≡ prefix ++ encode (b + 1) → IsRaised bs pushed
raised_by bs n b prefix pushed within here rises begins is =
    record {
      before = prefix;
      byte = b;
      rest = drop (suc n) bs;
      is =
          sym (take-append-drop n bs)
          ∙ (ap (λ (xs : List ℕ). xs ++ drop n bs) (sym (begins ∙ range_take bs n))
          ∙ ap (λ (xs : List ℕ). prefix ++ xs)
          (drop-cons bs n 0 within ∙ ap (λ (x : ℕ). x ∷ drop (suc n) bs) (sym here)));
      raised_is =
          is ∙ ap (λ (xs : List ℕ). prefix ++ xs) (encode_ascii (b + 1) (omega (arith, rises)));
    }

-- a text is not above one that begins so
pub begun_at_most : (bytes prefix : List ℕ) → BeginsWith bytes prefix
    → is_at_most (text prefix) (text bytes) ≡ true
begun_at_most bytes prefix b =
    subst (λ (bs : List ℕ). is_at_most (text prefix) (text bs) ≡ true) (sym b.is)
    (prefix_at_most prefix b.rest)

raised_at_most : (bytes raised : List ℕ) → IsRaised bytes raised
    → is_at_most (text bytes) (text raised) ≡ true
raised_at_most bytes raised r =
    subst (λ (bs : List ℕ). is_at_most (text bs) (text raised) ≡ true) (sym r.is)
    (subst (λ (bs : List ℕ). is_at_most (text (r.before ++ (r.byte ∷ r.rest))) (text bs) ≡ true)
    (sym r.raised_is) (raised_at_least r.before r.rest r.byte))

-- nor below one that is cut off and raised
pub above_at_most : (bytes end : List ℕ) → IsTextAbove bytes end
    → is_at_most (text bytes) (text end) ≡ true
above_at_most bytes end (inl e) =
    subst (λ (bs : List ℕ). is_at_most (text bytes) (text bs) ≡ true) (sym e)
    (at_most_itself (text bytes))
above_at_most bytes end (inr r) = raised_at_most bytes end r

-- equal values
pub same_at_most : (v w : Value) → v ≡ w → is_at_most v w ≡ true
same_at_most v w e = subst (λ (x : Value). is_at_most v x ≡ true) e (at_most_itself v)

-- the value of a text
pub text_value : (s : String Global) → value_of (Utf8 s) ≡ text (string_bytes s)
text_value s = search (rules, the_lemmas)

module _ (v : ScalarValue) (t : String Global) (bs : List ℕ) (is : v ≡ Utf8 t)
    (same : bs ≡ string_bytes t) where
  its_value : value_of v ≡ text bs
  its_value = ap value_of is ∙ (text_value t ∙ ap (λ (xs : List ℕ). text xs) (sym same))

  -- a value that is a text, and an end that is cut off
  pub value_at_most : (o : Option (String Global)) (e : String Global) → o ≡ Some e
      → IfSome o (λ s. IsTextAbove bs (string_bytes s))
      → is_at_most (value_of v) (value_of (Utf8 e)) ≡ true
  value_at_most o e there h =
      let above : IsTextAbove bs (string_bytes e) =
      subst (λ (x : Option (String Global)). IfSome x (λ s. IsTextAbove bs (string_bytes s))) there h in
      subst (λ (x : Value). is_at_most (value_of v) x ≡ true) (sym (text_value e))
      (subst (λ (x : Value). is_at_most x (text (string_bytes e)) ≡ true) (sym its_value)
      (above_at_most bs (string_bytes e) above))

  pub at_most_value : (e : String Global) (cut : List ℕ) → string_bytes e ≡ cut → BeginsWith bs cut
      → is_at_most (value_of (Utf8 e)) (value_of v) ≡ true
  at_most_value e cut here begins =
      subst (λ (x : Value). is_at_most (value_of (Utf8 e)) x ≡ true) (sym its_value)
      (subst (λ (x : Value). is_at_most x (text bs) ≡ true)
      (ap (λ (xs : List ℕ). text xs) (sym here) ∙ sym (text_value e)) (begun_at_most bs cut begins))
