-- Matches that are replaced one after the other.
use Rattle.std.proofs.Common.{◌≡◌, ◌≤◌, ◌<◌, ◌+◌, ◌-◌, ◌++◌, ℕ, zero, suc, List, Option, Some, None}
use Rattle.std.proofs.Common.{true, ap, ap₂, arith, drop, length, option_map, refl, subst, sym, append_assoc, ◌∙◌}
use Rattle.std.specs.Prelude.{chars, slice_range, IsCharBoundary}
use Rattle.std.proofs.lemmas.Option.{same_Some}
use Rattle.regex.specs.Patterns.{Match, Re, find_str}
use Rattle.regex.proofs.SearchLemmas.{leftmost_within}
use Rattle.vortex_sql_patterns.specs.Replacing.{Found, found_at, group_in, replaced_on}
use Rattle.vortex_sql_patterns.specs.Replacing.{seen, written}
use Rattle.vortex_sql_patterns.specs.Matched.{IsFoundAt}
use Rattle.vortex_sql_patterns.specs.PatternFunctions.{behind}
use Rattle.vortex_sql_patterns.proofs.Counts.{later}

module _ (re : Re) (bs : List ℕ) where
  pub within : (p : ℕ) (f : Found) → found_at re bs p ≡ Some f
      → (p ≤ f.start) × (f.start ≤ f.end) × (f.end ≤ length bs)
  within p f e = by (find_str re bs p) refl e
    where
      by : (o : Option Match) → find_str re bs p ≡ o → option_map seen o ≡ Some f
          → (p ≤ f.start) × (f.start ≤ f.end) × (f.end ≤ length bs)
      by None k e = cc
      by (Some m) k e =
          subst (λ (x : Found). (p ≤ x.start) × (x.start ≤ x.end) × (x.end ≤ length bs))
          (same_Some _ _ e) (leftmost_within re bs true p m k)

  module _ (write : Found → List ℕ) where
    enough : (n k p at : ℕ) (o : Option Found) → found_at re bs p ≡ o → length bs < p + n
        → length bs < p + k
        → replaced_on write bs (found_at re bs) n at o ≡ replaced_on write bs (found_at re bs) k at o
    enough zero zero p at o e l m = refl
    enough zero (suc k) p at None e l m = refl
    enough (suc n) zero p at None e l m = refl
    enough (suc n) (suc k) p at None e l m = refl
    enough zero (suc k) p at (Some f) e l m = absurd (omega (arith, within p f e, l))
    enough (suc n) zero p at (Some f) e l m = absurd (omega (arith, within p f e, m))
    enough (suc n) (suc k) p at (Some f) e l m =
        let w = within p f e in
        let far = later (f.start, f.end) w.1 in
        ap (λ x. slice_range bs at f.start ++ (write f ++ x))
        (enough n k (behind (f.start, f.end)) f.end (found_at re bs (behind (f.start, f.end))) refl
        (omega (arith, w, far, l)) (omega (arith, w, far, m)))

    -- one more was found at p
    pub one_more : (p at : ℕ) (f : Found) → found_at re bs p ≡ Some f
        → replaced_on write bs (found_at re bs) (length bs + 1 - p) at (found_at re bs p)
        ≡ slice_range bs at f.start ++ (write f ++ replaced_on write bs (found_at re bs)
        (length bs + 1 - behind (f.start, f.end)) f.end (found_at re bs (behind (f.start, f.end))))
    one_more p at f e =
        let w = within p f e in
        let far = later (f.start, f.end) w.1 in
        let room : length bs + 1 - p ≡ suc (length bs - p) = omega (arith, w) in
        ap₂ (λ n o. replaced_on write bs (found_at re bs) n at o) room e
        ∙ ap (λ x. slice_range bs at f.start ++ (write f ++ x))
        (enough (length bs - p) (length bs + 1 - behind (f.start, f.end)) (behind (f.start, f.end))
        f.end (found_at re bs (behind (f.start, f.end))) refl (omega (arith, w, far))
        (omega (arith, w, far)))

    none_left : (n at : ℕ) → replaced_on write bs (found_at re bs) n at None ≡ drop at bs
    none_left zero at = refl
    none_left (suc n) at = refl

    -- none was
    pub no_more : (n p at : ℕ) → found_at re bs p ≡ None
        → replaced_on write bs (found_at re bs) n at (found_at re bs p) ≡ drop at bs
    no_more n p at e = ap (replaced_on write bs (found_at re bs) n at) e ∙ none_left n at

-- what is still to be made, from a byte on, where matches begin at `start` or behind it
abbrev pub still : Re → List ℕ → List ℕ → ℕ → ℕ → List ℕ
still re bs rs at start =
    replaced_on (λ f. written (group_in bs f) (chars rs)) bs (found_at re bs)
    (length bs + 1 - start) at (found_at re bs start)

abbrev pub Step : Re → List ℕ → List ℕ → List ℕ → ℕ → ℕ × ℕ → List ℕ → Type 0
Step re bs rs made start s total =
    IsCharBoundary bs s.0 × (s.0 ≤ s.1) × (start < s.1) × (start ≤ length bs)
    × (made ++ still re bs rs s.0 s.1 ≡ total)

-- one more match was replaced
pub replaced_step : (re : Re) (bs rs before made total : List ℕ) (at start : ℕ)
    (o : Option (ℕ × ℕ)) (s : ℕ × ℕ) → IsFoundAt re bs at start rs before made o → o ≡ Some s
    → before ++ still re bs rs at start ≡ total → Step re bs rs made start s total
replaced_step re bs rs before made total at start None s h e l = cc
replaced_step re bs rs before made total at start (Some x) s (f, k, is, cut, made_is) e l =
    let w = within re bs start f k in
    let far = later (f.start, f.end) w.1 in
    let text = written (group_in bs f) (chars rs) in
    let rest = still re bs rs f.end (behind (f.start, f.end)) in
    let eq : s ≡ (f.end, behind (f.start, f.end)) = sym (same_Some _ _ e) ∙ is in
    subst (λ (y : ℕ × ℕ). Step re bs rs made start y total) (sym eq) (
      cut,
      far.1,
      omega (arith, w, far),
      omega (arith, w),
      ap (λ x. x ++ rest) made_is ∙ append_assoc before (slice_range bs at f.start ++ text) rest
          ∙ ap (λ x. before ++ x) (append_assoc (slice_range bs at f.start) text rest
          ∙ sym (one_more re bs (λ g. written (group_in bs g) (chars rs)) start at f k))
          ∙ l,
    )

-- none was left
pub replaced_end : (re : Re) (bs rs before made total : List ℕ) (at start : ℕ)
    (o : Option (ℕ × ℕ)) → IsFoundAt re bs at start rs before made o → o ≡ None
    → before ++ still re bs rs at start ≡ total → made ++ drop at bs ≡ total
replaced_end re bs rs before made total at start (Some x) h e l = cc
replaced_end re bs rs before made total at start None (k, same) e l =
    ap (λ x. x ++ drop at bs) same
    ∙ ap (λ x. before ++ x)
    (sym (no_more re bs (λ f. written (group_in bs f) (chars rs)) (length bs + 1 - start) start at k))
    ∙ l
