-- The marks of the values that codes refer to.
use Rattle.std.proofs.Common.{◌≡◌, ◌≢◌, ℕ, ◌+◌, ◌<◌, ◌≤◌, ◌↔◌, ◌⊎◌, inl, inr, Bool, true, false}
use Rattle.std.proofs.Common.{List, length, sym, ap, ◌∙◌, arith, replicate, true≢false}
use Rattle.std.specs.Prelude.{All, IsTrue, slice_index, slice_index_or, slice_set}
use Rattle.std.specs.List.{Contains}
use Rattle.std.proofs.lemmas.List.{get_or_default, get_or-replicate, get_or-set_same}
use Rattle.std.proofs.lemmas.List.{get_or-set_other}
use Rattle.vortex_arrays.specs.Dictionary.{AreCoded}

-- one of the first codes is the number
abbrev pub IsNamed : List ℕ → ℕ → ℕ → Type 0
IsNamed codes i k = (j : ℕ) × (j < i) × (slice_index codes j ≡ k)

abbrev pub AreMarked : List Bool → List ℕ → ℕ → ℕ → Type 0
AreMarked marks codes i count =
    (k : ℕ) → k < count → (slice_index_or marks k false ≡ true) ↔ IsNamed codes i k

pub none_marked : (codes : List ℕ) (count : ℕ) → AreMarked (replicate count false) codes 0 count
none_marked codes count k lt = (
  λ h. absurd (true≢false (sym h ∙ get_or-replicate count k false false lt)),
  λ named. absurd (omega (arith, named.1)),
)

same_or_other : (k code : ℕ) → (k ≡ code) ⊎ (k ≢ code)
same_or_other k code = grind arith

before_or_at : (j i : ℕ) → j < i + 1 → (j < i) ⊎ (j ≡ i)
before_or_at j i lt = grind arith

pub more_marked : (marks : List Bool) (codes : List ℕ) (i count code : ℕ)
    → AreMarked marks codes i count → length marks ≡ count → code < count
    → code ≡ slice_index codes i → AreMarked (slice_set marks code true) codes (i + 1) count
more_marked marks codes i count code before long below is k lt = by (same_or_other k code)
  where
    by : (k ≡ code) ⊎ (k ≢ code)
        → (slice_index_or (slice_set marks code true) k false ≡ true) ↔ IsNamed codes (i + 1) k
    by (inl same) = (
      λ h. (i, omega arith, sym is ∙ sym same),
      λ named.
          ap (λ j. slice_index_or (slice_set marks code true) j false) same
          ∙ get_or-set_same marks code true false (omega (arith, long, below)),
    )
    by (inr other) =
        let kept = get_or-set_other marks code k true false other in (
          λ h. let named = (before k lt).0 (sym kept ∙ h) in
              (named.0, omega (arith, named.1), named.2),
          λ named. kept ∙ (before k lt).1 (earlier named (before_or_at named.0 i named.1)),
        )
      where
        earlier : (named : IsNamed codes (i + 1) k) → (named.0 < i) ⊎ (named.0 ≡ i)
            → IsNamed codes i k
        earlier named (inl less) = (named.0, less, named.2)
        earlier named (inr at) =
            absurd (other (sym named.2 ∙ ap (slice_index codes) at ∙ sym is))

pub all_marked : (marks : List Bool) (codes : List ℕ) (i count : ℕ)
    → AreMarked marks codes i count → length codes ≤ i → i ≤ length codes
    → (k : ℕ) → k < count → (slice_index_or marks k false ≡ true) ↔ Contains codes k
all_marked marks codes i count before past within k lt = (
  λ h. let named = (before k lt).0 h in
      let inside : named.0 < length codes = omega (arith, named.1, within) in
      (named.0, inside, get_or_default codes named.0 k 0 inside ∙ named.2),
  λ found. (before k lt).1
      (found.0, omega (arith, found.1, past), get_or_default codes found.0 0 k found.1 ∙ found.2),
)

-- each value has a code exactly where each mark is set
pub all_coded : (marks : List Bool) (codes : List ℕ) (count : ℕ) (b : Bool)
    → length marks ≡ count
    → ((k : ℕ) → k < count → (slice_index_or marks k false ≡ true) ↔ Contains codes k)
    → (IsTrue b ↔ All (λ mark. mark ≡ true) marks) → IsTrue b ↔ AreCoded count codes
all_coded marks codes count b long marked told = (
  λ h k lt. (marked k lt).0 (told.0 h k false (omega (arith, long, lt))),
  λ coded. told.1
      (λ k d lt.
      let below : k < count = omega (arith, long, lt) in
      get_or_default marks k d false lt ∙ (marked k below).1 (coded k below)),
)
