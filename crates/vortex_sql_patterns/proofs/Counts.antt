-- Matches that are counted one after the other.
use Rattle.std.proofs.Common.{◌≡◌, ◌≤◌, ◌<◌, ◌+◌, ◌-◌, ◌==◌, ℕ, zero, suc, List, Option, Some, None, Bool}
use Rattle.std.proofs.Common.{true, false, ap, ap₂, arith, cond, length, option_map, refl, subst, ◌∙◌}
use Rattle.std.proofs.lemmas.Bool.{eqb-false}
use Rattle.std.proofs.lemmas.Option.{same_Some}
use Rattle.regex.specs.Patterns.{Match, Re, find_str, span}
use Rattle.regex.proofs.SearchLemmas.{leftmost_within}
use Rattle.vortex_sql_patterns.specs.PatternFunctions.{behind, count_on, span_at}

pub later : (s : ℕ × ℕ) → s.0 ≤ s.1 → (s.0 < behind s) × (s.1 ≤ behind s) × (behind s ≤ s.1 + 1)
later s le = by (s.0 == s.1) refl
  where
    by : (b : Bool) → (s.0 == s.1) ≡ b
        → (s.0 < cond b (s.1 + 1) s.1) × (s.1 ≤ cond b (s.1 + 1) s.1)
        × (cond b (s.1 + 1) s.1 ≤ s.1 + 1)
    by true e = (omega (arith, le), omega arith, omega arith)
    by false e = (omega (arith, le, eqb-false s.0 s.1 e), omega arith, omega arith)

module _ (re : Re) (bs : List ℕ) where
  pub within : (p : ℕ) (s : ℕ × ℕ) → span_at re bs p ≡ Some s
      → (p ≤ s.0) × (s.0 ≤ s.1) × (s.1 ≤ length bs)
  within p s e = by (find_str re bs p) refl e
    where
      by : (o : Option Match) → find_str re bs p ≡ o → option_map span o ≡ Some s
          → (p ≤ s.0) × (s.0 ≤ s.1) × (s.1 ≤ length bs)
      by None k e = cc
      by (Some m) k e =
          subst (λ (x : ℕ × ℕ). (p ≤ x.0) × (x.0 ≤ x.1) × (x.1 ≤ length bs)) (same_Some _ _ e)
          (leftmost_within re bs true p m k)

  -- any limits that leave room for a match at each byte give the same number
  enough : (n k p : ℕ) (o : Option (ℕ × ℕ)) → span_at re bs p ≡ o → length bs < p + n
      → length bs < p + k → count_on (span_at re bs) n o ≡ count_on (span_at re bs) k o
  enough zero zero p o e l m = refl
  enough zero (suc k) p None e l m = refl
  enough (suc n) zero p None e l m = refl
  enough (suc n) (suc k) p None e l m = refl
  enough zero (suc k) p (Some s) e l m = absurd (omega (arith, within p s e, l))
  enough (suc n) zero p (Some s) e l m = absurd (omega (arith, within p s e, m))
  enough (suc n) (suc k) p (Some s) e l m =
      let w = within p s e in
      let far = later s w.1 in
      ap (λ x. x + 1)
      (enough n k (behind s) (span_at re bs (behind s)) refl (omega (arith, w, far, l))
      (omega (arith, w, far, m)))

  none_left : (n : ℕ) → count_on (span_at re bs) n None ≡ 0
  none_left zero = refl
  none_left (suc n) = refl

  -- one more was found at p
  pub one_more : (c p total : ℕ) (s : ℕ × ℕ) → span_at re bs p ≡ Some s
      → c + count_on (span_at re bs) (length bs + 1 - p) (span_at re bs p) ≡ total
      → c + 1 + count_on (span_at re bs) (length bs + 1 - behind s) (span_at re bs (behind s)) ≡ total
  one_more c p total s e h =
      let w = within p s e in
      let far = later s w.1 in
      let room : length bs + 1 - p ≡ suc (length bs - p) = omega (arith, w) in
      let step : count_on (span_at re bs) (length bs + 1 - p) (span_at re bs p)
      ≡ count_on (span_at re bs) (length bs - p) (span_at re bs (behind s)) + 1 =
      ap₂ (count_on (span_at re bs)) room e in
      let same = enough (length bs - p) (length bs + 1 - behind s) (behind s)
      (span_at re bs (behind s)) refl (omega (arith, w, far)) (omega (arith, w, far)) in
      omega (arith, h, step, same)

  -- none was
  pub no_more : (c p total : ℕ) → span_at re bs p ≡ None
      → c + count_on (span_at re bs) (length bs + 1 - p) (span_at re bs p) ≡ total → c ≡ total
  no_more c p total e h =
      let n = length bs + 1 - p in
      let none : count_on (span_at re bs) n (span_at re bs p) ≡ 0 =
      ap (count_on (span_at re bs) n) e ∙ none_left n in
      omega (arith, h, none)
