-- The first 15 significant digits of a float, rounded at a place after the point.
use Rattle.std.specs.Prelude.{◌≡◌, ◌+◌, ◌-◌, ◌/◌, ◌^◌, ℕ, Option, Some, None, nat_le}
use Rattle.std.specs.Prelude.{if◌then◌else◌}
use Rattle.vortex_float_texts.specs.declared.leading.FirstDigits.{FirstDigits}
use Rattle.vortex_float_texts.specs.declared.places.PlaceRounding.{PlaceRounding}
use Rattle.vortex_float_texts.specs.declared.places.PlaceRounding.TheVariants.{Half, Trunc}
use Rattle.vortex_float_texts.specs.Leading.{leading}

-- d over u: the nearest, from halfway the greater one; or the next below
abbrev pub over : PlaceRounding → ℕ → ℕ → ℕ
over Half u d = (d + u / 2) / u
over Trunc u d = d / u

-- a number without its last q digits
abbrev pub without : PlaceRounding → ℕ → ℕ → ℕ
without r q d = over r (10 ^ q) d

-- how many of 10 to the power of minus k; none where no digit is after that place
abbrev pub at_place : PlaceRounding → ℕ → FirstDigits → Option ℕ
at_place r k l =
    if nat_le 400 (l.power + k) then None
    else Some (without r (400 - (l.power + k)) l.digits)

abbrev pub on_leading : PlaceRounding → ℕ → Option FirstDigits → Option ℕ
on_leading r k (Some l) = at_place r k l
on_leading r k None = None

-- of the pattern of a float of 64 bits
abbrev pub rounded : PlaceRounding → ℕ → ℕ → Option ℕ
rounded r k n = on_leading r k (leading n)
