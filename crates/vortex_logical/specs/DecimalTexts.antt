-- Decimals as they are written: a sign, digits, a point, and at most so many digits as the scale
-- says.
use Rattle.std.specs.Prelude.{◌≡◌, ◌-◌, ◌+◌, ◌*◌, ◌/◌, ◌%◌, ◌^◌, ℕ, zero, suc, ℤ, pos, negsuc}
use Rattle.std.specs.Prelude.{neg_ℤ, Bool, true, false, if◌then◌else◌, ◌==◌, nat_lt, codes}
use Rattle.std.specs.Prelude.{List, [], ◌∷◌, ◌++◌, Option, Some, None}
use Rattle.std.specs.Char.{is_ascii_digit}
use Rattle.std.specs.Fmt.{decimal}
use Rattle.std.specs.Option.{option_map}
use Rattle.std.specs.Str.{bytes_eq}
use Rattle.vortex_logical.specs.Digits.{Digits, AreDigits}
use Rattle.vortex_logical.specs.Decimals.{HasDigits}

-- the number from here on: whether the point is behind us, how many places are left, the number so
-- far, and the rest of the text
abbrev pub value_from : Bool → ℕ → ℕ → List ℕ → Option ℕ
value_from seen left number [] = Some (number * 10 ^ left)
value_from false left number (b ∷ bs) =
    if b == 46 then value_from true left number bs
    else (if is_ascii_digit b then value_from false left (number * 10 + (b - 48)) bs else None)
value_from true zero number (b ∷ bs) = None
value_from true (suc left) number (b ∷ bs) =
    if is_ascii_digit b then value_from true left (number * 10 + (b - 48)) bs else None

abbrev pub below_limit : ℕ → Option ℕ → Option ℕ
below_limit limit None = None
below_limit limit (Some n) = if nat_lt n limit then Some n else None

-- the integer of a text without a sign: digits, at most one point among them or beside them, and
-- behind it no more than the scale has
abbrev pub magnitude_of_text : Digits → List ℕ → Option ℕ
magnitude_of_text d [] = None
magnitude_of_text d (b ∷ bs) =
    if bytes_eq (b ∷ bs) (codes ".") then None
    else below_limit (10 ^ d.precision) (value_from false d.scale 0 (b ∷ bs))

-- the integer of a text, a sign before it or none
abbrev pub decimal_of_text : Digits → List ℕ → Option ℤ
decimal_of_text d [] = None
decimal_of_text d (b ∷ bs) =
    if b == 45 then option_map (λ n. neg_ℤ (pos n)) (magnitude_of_text d bs)
    else (if b == 43 then option_map (λ n. pos n) (magnitude_of_text d bs)
    else option_map (λ n. pos n) (magnitude_of_text d (b ∷ bs)))

-- the last k digits of n
abbrev pub last_digits : ℕ → ℕ → List ℕ
last_digits zero n = []
last_digits (suc k) n = last_digits k (n / 10) ++ (48 + n % 10) ∷ []

-- n with so many digits after the point, and no point where there are none
abbrev pub magnitude_text : ℕ → ℕ → List ℕ
magnitude_text zero n = decimal n
magnitude_text (suc s) n = decimal (n / 10 ^ suc s) ++ 46 ∷ last_digits (suc s) n

abbrev pub decimal_text : ℕ → ℤ → List ℕ
decimal_text s (pos n) = magnitude_text s n
decimal_text s (negsuc n) = 45 ∷ magnitude_text s (suc n)

-- what is written is read back
abbrev pub DecimalsAreReadBack : Type 0
DecimalsAreReadBack =
    (d : Digits) → AreDigits d → (m : ℤ) → HasDigits d.precision m
    → decimal_of_text d (decimal_text d.scale m) ≡ Some m
