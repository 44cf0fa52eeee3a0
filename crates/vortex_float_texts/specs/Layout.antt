-- How the digits of a decimal are laid out.
use Rattle.std.specs.Prelude.{◌≡◌, ◌+◌, ◌-◌, ◌∷◌, ◌++◌, ◌&&◌, ℕ, List, [], Bool, length, take, drop, replicate}
use Rattle.std.specs.Prelude.{codes, nat_le, nat_lt, if◌then◌else◌}
use Rattle.std.specs.Fmt.{decimal}
use Rattle.vortex_float_texts.specs.declared.width.Width.{Width}
use Rattle.vortex_float_texts.specs.Widths.{leading_zeros, whole_digits}

-- as 1200.0
abbrev pub whole_text : List ℕ → ℕ → List ℕ
whole_text ds k = ds ++ (replicate k 48 ++ codes ".0")

-- as 12.5
abbrev pub split_text : List ℕ → ℕ → List ℕ
split_text ds k = take k ds ++ 46 ∷ drop k ds

-- as 0.00125
abbrev pub small_text : List ℕ → ℕ → List ℕ
small_text ds k = codes "0." ++ (replicate k 48 ++ ds)

abbrev pub fraction : List ℕ → List ℕ
fraction [] = []
fraction (d ∷ ds) = 46 ∷ d ∷ ds

-- as e20 and e-7, of the place of the point and 400
abbrev pub exponent_text : ℕ → List ℕ
exponent_text p = if nat_lt p 401 then codes "e-" ++ decimal (401 - p) else codes "e" ++ decimal (p - 401)

-- as 1.25e20
abbrev pub scientific_text : List ℕ → ℕ → List ℕ
scientific_text [] p = []
scientific_text (d ∷ ds) p = d ∷ fraction ds ++ exponent_text p

-- no exponent from the least to the most digits
abbrev pub laid_out : Width → List ℕ → ℕ → List ℕ
laid_out w ds p =
    if nat_le (length ds + p) (400 + whole_digits w) then
    (if nat_le 400 p then whole_text ds (p - 400)
    else (if nat_lt 400 (length ds + p) then split_text ds (length ds + p - 400)
    else (if nat_le 400 (length ds + p + leading_zeros w)
    then small_text ds (400 - (length ds + p)) else scientific_text ds (length ds + p))))
    else scientific_text ds (length ds + p)

-- the decimal d times 10 to the power p less 400
abbrev pub decimal_text : Width → ℕ → ℕ → List ℕ
decimal_text w d p = laid_out w (decimal d) p
