-- Statistics of a group in the places of those of another.
use Rattle.std.proofs.Common.{◌≡◌, ◌<◌, ◌≤◌, ℕ, zero, suc, List, [], ◌∷◌, ◌++◌, length, get_or, take}
use Rattle.std.proofs.Common.{Option, Some, sym, ap, subst, arith, refl, ◌∙◌}
use Rattle.std.specs.Prelude.{slice_set}
use Rattle.vortex_types.specs.TypeOf.{type_of}
use Rattle.vortex_statistics.specs.StatisticsView.{EndView, StatisticsView}
use Rattle.vortex_statistics.specs.Replaced.{replaced}
use Rattle.vortex_statistics.specs.Unknown.{unknown}
use Rattle.vortex_functions.specs.Walks.{AllMean}
use Rattle.vortex_pruning.specs.declared.groups.FieldStatistics.{FieldStatistics}
use Rattle.vortex_pruning.specs.Groups.{IsOfField, field_in, statistics_in, told_at, count_in}
use Rattle.vortex_pruning.specs.Groups.{outer_end}

-- statistics of the first fields are those in the group; the others have the types of theirs
abbrev pub ReplacedSoFar : ℕ → ℕ → ℕ → List FieldStatistics → List StatisticsView → Type 0
ReplacedSoFar g n k [] [] = Unit {0}
ReplacedSoFar g n zero (f ∷ fs) (s ∷ ss) = IsOfField f s × ReplacedSoFar g n zero fs ss
ReplacedSoFar g n (suc k) (f ∷ fs) (s ∷ ss) = (s ≡ field_in g n f) × ReplacedSoFar g n k fs ss
ReplacedSoFar g n k fs ss = ⊥

module _ (g n : ℕ) where
  pub none_replaced : (fs : List FieldStatistics) (ss : List StatisticsView)
      → AllMean IsOfField fs ss → ReplacedSoFar g n 0 fs ss
  none_replaced [] [] h = tt
  none_replaced [] (s ∷ ss) h = absurd h
  none_replaced (f ∷ fs) [] h = absurd h
  none_replaced (f ∷ fs) (s ∷ ss) h = (h.0, none_replaced fs ss h.1)

  pub all_replaced : (k : ℕ) (fs : List FieldStatistics) (ss : List StatisticsView)
      → length fs ≤ k → ReplacedSoFar g n k fs ss → ss ≡ statistics_in g n fs
  all_replaced k [] [] le h = refl
  all_replaced zero [] (s ∷ ss) le h = absurd h
  all_replaced (suc k) [] (s ∷ ss) le h = absurd h
  all_replaced zero (f ∷ fs) ss le h = absurd (omega (arith, le))
  all_replaced (suc k) (f ∷ fs) [] le h = absurd h
  all_replaced (suc k) (f ∷ fs) (s ∷ ss) le h =
      rw (h.0, all_replaced k fs ss (omega (arith, le)) h.1) refl

  -- there are as many as fields
  pub replaced_counted : (k : ℕ) (fs : List FieldStatistics) (ss : List StatisticsView)
      → ReplacedSoFar g n k fs ss → length ss ≡ length fs
  replaced_counted k [] [] h = refl
  replaced_counted zero [] (s ∷ ss) h = absurd h
  replaced_counted (suc k) [] (s ∷ ss) h = absurd h
  replaced_counted zero (f ∷ fs) [] h = absurd h
  replaced_counted (suc k) (f ∷ fs) [] h = absurd h
  replaced_counted zero (f ∷ fs) (s ∷ ss) h =
      let rest : length ss ≡ length fs = replaced_counted zero fs ss h.1 in omega (arith, rest)
  replaced_counted (suc k) (f ∷ fs) (s ∷ ss) h =
      let rest : length ss ≡ length fs = replaced_counted k fs ss h.1 in omega (arith, rest)

  -- the next have the type of their field
  pub next_of_field : (k : ℕ) (fs : List FieldStatistics) (ss : List StatisticsView)
      (f : FieldStatistics) (s : StatisticsView) → ReplacedSoFar g n k fs ss → k < length fs
      → s ≡ get_or ss k s → f ≡ get_or fs k f → IsOfField f s
  next_of_field k [] ss f s h lt at_s at_f = absurd (omega (arith, lt))
  next_of_field zero (x ∷ fs) [] f s h lt at_s at_f = absurd h
  next_of_field (suc k) (x ∷ fs) [] f s h lt at_s at_f = absurd h
  next_of_field zero (x ∷ fs) (y ∷ ss) f s h lt at_s at_f =
      subst (λ (z : StatisticsView). IsOfField f z) (sym at_s)
      (subst (λ (z : FieldStatistics). IsOfField z y) (sym at_f) h.0)
  next_of_field (suc k) (x ∷ fs) (y ∷ ss) f s h lt at_s at_f =
      next_of_field k fs ss f s h.1 (omega (arith, lt)) at_s at_f

  -- and are replaced
  pub replace_more : (k j : ℕ) (fs : List FieldStatistics) (ss : List StatisticsView)
      (f : FieldStatistics) (s : StatisticsView) → j ≡ suc k → ReplacedSoFar g n k fs ss
      → k < length fs → f ≡ get_or fs k f → s ≡ field_in g n f
      → ReplacedSoFar g n j fs (slice_set ss k s)
  replace_more k j fs ss f s next h lt at_f is =
      subst (λ (m : ℕ). ReplacedSoFar g n m fs (slice_set ss k s)) (sym next) (go k fs ss h lt at_f)
    where
      go : (l : ℕ) (es : List FieldStatistics) (rs : List StatisticsView)
          → ReplacedSoFar g n l es rs → l < length es → f ≡ get_or es l f
          → ReplacedSoFar g n (suc l) es (slice_set rs l s)
      go l [] rs h lt at_f = absurd (omega (arith, lt))
      go zero (e ∷ es) [] h lt at_f = absurd h
      go (suc l) (e ∷ es) [] h lt at_f = absurd h
      go zero (e ∷ es) (r ∷ rs) h lt at_f = (is ∙ ap (field_in g n) at_f, h.1)
      go (suc l) (e ∷ es) (r ∷ rs) h lt at_f = (h.0, go l es rs h.1 (omega (arith, lt)) at_f)

  -- what is known of a field in the group, in place of what was
  pub replaced_field : (f : FieldStatistics) (s : StatisticsView) (k : Option ℕ)
      (a b : Option EndView) → IsOfField f s → k ≡ told_at count_in g f.nulls
      → a ≡ told_at outer_end g f.low → b ≡ told_at outer_end g f.high
      → replaced s (Some n) k a b ≡ field_in g n f
  replaced_field f s k a b is nulls low high = rw (is.typed, is.floats, nulls, low, high) refl

  -- statistics in a group have the types of their fields
  pub group_of_fields : (fs : List FieldStatistics) → AllMean IsOfField fs (statistics_in g n fs)
  group_of_fields [] = tt
  group_of_fields (f ∷ fs) = (record { typed = refl; floats = refl }, group_of_fields fs)

-- statistics of one more field, of which nothing is known
pub one_more_unknown : (k j : ℕ) (fs : List FieldStatistics) (ss : List StatisticsView)
    (f : FieldStatistics) → j ≡ suc k → AllMean IsOfField (take k fs) ss → k < length fs
    → f ≡ get_or fs k f → AllMean IsOfField (take j fs) (ss ++ unknown (type_of f.dtype) ∷ [])
one_more_unknown k j fs ss f next h lt at_f =
    subst (λ (m : ℕ). AllMean IsOfField (take m fs) (ss ++ unknown (type_of f.dtype) ∷ []))
    (sym next) (go k fs ss h lt at_f)
  where
    go : (l : ℕ) (es : List FieldStatistics) (rs : List StatisticsView)
        → AllMean IsOfField (take l es) rs → l < length es → f ≡ get_or es l f
        → AllMean IsOfField (take (suc l) es) (rs ++ unknown (type_of f.dtype) ∷ [])
    go l [] rs h lt at_f = absurd (omega (arith, lt))
    go zero (e ∷ es) [] h lt at_f =
        (record { typed = ap (λ (x : FieldStatistics). type_of x.dtype) at_f; floats = refl }, tt)
    go zero (e ∷ es) (r ∷ rs) h lt at_f = absurd h
    go (suc l) (e ∷ es) [] h lt at_f = absurd h
    go (suc l) (e ∷ es) (r ∷ rs) h lt at_f = (h.0, go l es rs h.1 (omega (arith, lt)) at_f)
