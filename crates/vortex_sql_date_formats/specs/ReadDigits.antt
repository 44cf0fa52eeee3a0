-- Numbers as the digits that begin a text.
use Rattle.std.specs.Prelude.{◌+◌, ◌-◌, ◌*◌, ◌^◌, ◌∷◌, ℕ, zero, suc, [], Bool, List, Option, Some, None}
use Rattle.std.specs.Prelude.{if◌then◌else◌, nat_le}
use Rattle.std.specs.Char.{is_ascii_digit}

-- the number with the digits that a text begins with, after those so far; how many more could
-- stand there; and the text after them
abbrev pub digits_from : ℕ → ℕ → List ℕ → ℕ × ℕ × List ℕ
digits_from left n [] = (n, left, [])
digits_from zero n (b ∷ bs) = (n, 0, b ∷ bs)
digits_from (suc left) n (b ∷ bs) =
    if is_ascii_digit b then digits_from left (n * 10 + (b - 48)) bs else (n, suc left, b ∷ bs)

abbrev pub are_enough : ℕ → ℕ → ℕ × ℕ × List ℕ → Bool
are_enough least width d = nat_le (least + d.1) width

-- the number of at least and at most so many digits, and the text after them
abbrev pub number_of : ℕ → ℕ → List ℕ → Option (ℕ × List ℕ)
number_of least width bs =
    let d = digits_from width 0 bs in
    if are_enough least width d then Some (d.0, d.2) else None

-- the fraction of such digits, with zeros for those that it does not have, in so many units at the
-- last of its places
abbrev pub fraction_of : ℕ → ℕ → ℕ → List ℕ → Option (ℕ × List ℕ)
fraction_of least width unit bs =
    let d = digits_from width 0 bs in
    if are_enough least width d then Some (d.0 * 10 ^ d.1 * unit, d.2) else None
