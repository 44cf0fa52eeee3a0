-- Words of 64 comparisons: their negation, and those of 64 rows of a longer list.
use Rattle.std.proofs.Common.{◌≡◌, ◌∙◌, ℕ, ◌+◌, ◌-◌, ◌^◌, ◌<◌, ◌≤◌, Bool, List, length, map, take, drop}
use Rattle.std.proofs.Common.{refl, sym, ap, arith, get_or, ℤ, pos, w64}
use Rattle.std.specs.Prelude.{not}
use Rattle.std.specs.Int.{bit_not}
use Rattle.std.specs.declared.cmp.Ordering.{Ordering}
use Rattle.std.specs.declared.cmp.Ordering.TheVariants.{Less, Equal, Greater}
use Rattle.std.specs.Ordering.{int_cmp, is_eq, is_ne, is_lt, is_le, is_gt, is_ge}
use Rattle.std.proofs.lemmas.List.{take-map, drop-map, get_or-take, get_or-drop}
use Rattle.vortex_bits.specs.Bits.{bit}
use Rattle.vortex_bits.proofs.WordLogic.{not_bit}
use Rattle.vortex_kernels.proofs.LaneMasks.{less_is, greater_is}

-- the negation of a word
pub denied : (word : ℕ) → word < 2 ^ 64 → (says other : ℕ → Bool)
    → ((j : ℕ) → not (says j) ≡ other j) → ((j : ℕ) → j < 64 → bit word j ≡ says j)
    → (j : ℕ) → j < 64 → bit (bit_not w64 word) j ≡ other j
denied word fits says other contrary told j lt =
    not_bit word j fits lt ∙ ap not (told j lt) ∙ contrary j

pub not_equal : (o : Ordering) → not (is_eq o) ≡ is_ne o
not_equal Less = refl
not_equal Equal = refl
not_equal Greater = refl

pub not_less : (o : Ordering) → not (is_lt o) ≡ is_ge o
not_less Less = refl
not_less Equal = refl
not_less Greater = refl

pub not_greater : (o : Ordering) → not (is_gt o) ≡ is_le o
not_greater Less = refl
not_greater Equal = refl
not_greater Greater = refl

pub not_less_turned : (a b : ℤ) → not (is_lt (int_cmp b a)) ≡ is_le (int_cmp a b)
not_less_turned a b =
    ap not (sym (less_is b a) ∙ greater_is a b) ∙ not_greater (int_cmp a b)

-- a row of 64 rows from a row on
pub row_of_part : {X : Type 0} (f : X → ℤ) (xs : List X) (at n j : ℕ) → j < n
    → get_or (map f (take (at + n - at) (drop at xs))) j (pos 0)
    ≡ get_or (map f xs) (at + j) (pos 0)
row_of_part f xs at n j lt =
    ap (λ zs. get_or zs j (pos 0)) (sym (take-map f (at + n - at) (drop at xs)))
    ∙ get_or-take (at + n - at) (map f (drop at xs)) j (pos 0) (omega (arith, lt))
    ∙ ap (λ zs. get_or zs j (pos 0)) (sym (drop-map f at xs))
    ∙ get_or-drop at (map f xs) j (pos 0)
