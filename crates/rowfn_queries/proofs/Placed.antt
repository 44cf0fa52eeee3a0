-- Places that digits say, and places column by column.
use Rattle.std.proofs.Common.{◌≡◌, ℕ, zero, suc, ◌<◌, Bool, true, false, Option, Some, None, ℤ, pos}
use Rattle.std.proofs.Common.{negsuc, refl, sym, arith, tests, nat_lt, if◌then◌else◌}
use Rattle.std.proofs.Common.{List, [], ◌∷◌, ◌++◌, ◌+◌, ◌∙◌, map}
use Rattle.std.specs.Prelude.{FitsSigned}
use Rattle.std.specs.List.{range_with_len}
use Rattle.std.specs.Int.{w128}
use Rattle.std.specs.Option.{option_and_then}
use Rattle.std.proofs.lemmas.Int.{ints}
use Rattle.std.proofs.lemmas.List.FromFn.{map-range_with_len_more}
use Rattle.rowfn_queries.specs.Places.{place_of_number}

small : (n : ℕ) → n < 1000000 → FitsSigned w128 (pos (suc n))
small n lt = grind (arith, ints, lt)

-- a number of more bits than 128 is no place
pub no_place : (said : Option ℤ) → ((z : ℤ) → said ≡ Some z → FitsSigned w128 z → ⊥)
    → None ≡ option_and_then place_of_number said
no_place None h = refl
no_place (Some (pos zero)) h = refl
no_place (Some (pos (suc n))) h = by (nat_lt n 1000000) refl
  where
    by : (b : Bool) → nat_lt n 1000000 ≡ b
        → None ≡ if◌then◌else◌ {A = Option ℕ} (nat_lt n 1000000) (Some n) None
    by true e = absurd (h (pos (suc n)) refl (small n (grind (arith, tests))))
    by false e = sym (λ i. if e i then Some n else None)
no_place (Some (negsuc n)) h = refl

-- a list that is made by a function of the place, and one element more
pub one_more : {B : Type 0} (f : ℕ → B) (xs : List B) (x : B) (i : ℕ)
    → xs ≡ map f (range_with_len 0 i) → x ≡ f i
    → xs ++ x ∷ [] ≡ map f (range_with_len 0 (i + 1))
one_more f xs x i h e =
    (λ j. h j ++ e j ∷ []) ∙ sym (map-range_with_len_more f 0 i i (omega arith))
