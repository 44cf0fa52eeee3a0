-- A float of 64 bits at a place after the point: its first 15 significant digits, rounded there, as
-- PostgreSQL rounds a float8 that is cast to numeric; and the float nearest to that decimal.
use Rattle.std.specs.Prelude.{◌≡◌, ◌&&◌, ◌^◌, ℕ, ℤ, pos, List, Option, Some, None, Bool, true, false}
use Rattle.std.specs.Prelude.{◌-◌, nat_le, codes, get_or, refl, int_le, int_lt, unsigned_abs}
use Rattle.std.specs.Prelude.{if◌then◌else◌}
use Rattle.std.specs.Float.{Float, binary64}
use Rattle.std.proofs.Common.{cond}
use lib.Ieee.{round}
use lib.Ieee.Fits.{round-fits}
use Rattle.vortex_types.specs.declared.dtype.PType.TheVariants.{I64}
use Rattle.vortex_types.specs.LogicalTypes.{integer_type}
use Rattle.vortex_types.specs.Typing.{FitsPType}
use Rattle.vortex_types.specs.Values.{number}
use Rattle.vortex_interface.specs.Outcomes.{Outcome, gives, GivesType}
use Rattle.vortex_float_texts.specs.declared.places.PlaceRounding.{PlaceRounding}
use Rattle.vortex_float_texts.specs.declared.places.PlaceRounding.TheVariants as rounding
use Rattle.vortex_float_texts.specs.declared.leading.FirstDigits.{FirstDigits}
use Rattle.vortex_float_texts.specs.Leading.{is_float, leading}
use Rattle.vortex_float_texts.specs.Places.{rounded}
use Rattle.vortex_sql_rows.specs.declared.faults.RowFault.TheVariants.{OtherValues}
use Rattle.vortex_sql_rows.specs.declared.types.Gives.TheVariants as answer
use Rattle.vortex_sql_rows.specs.declared.types.Kind.TheVariants.{Within}
use Rattle.vortex_sql_rows.specs.declared.types.Takes.TheVariants.{Alike}
use Rattle.vortex_sql_rows.specs.Faults.{faults_by}
use Rattle.vortex_sql_rows.specs.Integers.{checked, in_range}
use Rattle.vortex_sql_rows.specs.Row.{Row, LawfulRow}
use Rattle.vortex_sql_rows.specs.Shapes.{strict_row, two_ints, two_ints_lawful}
use Rattle.vortex_sql_rows.specs.Types.{is_in}
use Rattle.vortex_sql_floats.specs.FloatOutcomes.{gives_float, on_key}
use Rattle.vortex_sql_floats.specs.KeyRanges.{float_fits}
use Rattle.vortex_sql_float_functions.specs.declared.places.FloatPlaces.{FloatPlaces}
use Rattle.vortex_sql_float_functions.specs.declared.places.FloatPlaces.TheVariants as function

abbrev pub rounding_of : FloatPlaces → PlaceRounding
rounding_of function.Round = rounding.Half
rounding_of function.Trunc = rounding.Trunc

-- the float nearest to d / 10 ^ k, with the sign of z
abbrev pub placed_float : ℤ → ℕ → ℕ → Float
placed_float z k d = round binary64 (int_lt z (pos 0)) d (10 ^ k)

-- the float nearest to all 15 digits; the float itself where the last of them is before the point
abbrev pub digits_float : ℤ → FirstDigits → Outcome
digits_float z l =
    if nat_le l.power 400 then gives_float (placed_float z (400 - l.power) l.digits)
    else gives (number z)

abbrev pub leading_float : ℤ → Option FirstDigits → Outcome
leading_float z (Some l) = digits_float z l
leading_float z None = gives (number z)

-- all digits where none of them is after the place
abbrev pub placed_or : ℤ → ℕ → Option FirstDigits → Option ℕ → Outcome
placed_or z k l (Some d) = gives_float (placed_float z k d)
placed_or z k l None = leading_float z l

-- of a stored integer
unfoldable pub placed : FloatPlaces → ℕ → ℤ → Outcome
placed f k z =
    if is_float z
    then placed_or z k (leading (unsigned_abs z)) (rounded (rounding_of f) k (unsigned_abs z))
    else faults_by OtherValues

-- a number of places, from 0 to 19
abbrev pub places_in : ℤ → Option ℕ
places_in k = if int_le (pos 0) k && int_le k (pos 19) then Some (unsigned_abs k) else None

abbrev pub key_at : FloatPlaces → ℤ → ℤ → Outcome
key_at f k z = on_key (λ n. placed f n z) (places_in k)

-- of two integers of 64 bits
abbrev pub at_places : FloatPlaces → ℤ → ℤ → Outcome
at_places f z k = on_key (key_at f k) (checked I64 z)

abbrev pub places_id : FloatPlaces → List ℕ
places_id function.Round = codes "sql.float_round_places"
places_id function.Trunc = codes "sql.float_trunc_places"

abbrev pub places_row : FloatPlaces → Row
places_row f =
    strict_row (places_id f) 2 (Alike (Within I64)) (answer.Integer I64) false
    (two_ints (λ p. at_places f))

places_named : (f : FloatPlaces) → get_or (places_id f) 0 0 ≡ 115
places_named function.Round = refl
places_named function.Trunc = refl

digits_fit : (z : ℤ) (l : FirstDigits) → FitsPType I64 z
    → GivesType (integer_type I64 false) (digits_float z l)
digits_fit z l h = by (nat_le l.power 400)
  where
    nearest : Float
    nearest = placed_float z (400 - l.power) l.digits

    by : (b : Bool)
        → GivesType (integer_type I64 false) (cond b (gives_float nearest) (gives (number z)))
    by true =
        float_fits nearest
        (round-fits binary64 (int_lt z (pos 0)) l.digits (10 ^ (400 - l.power)))
    by false = h

or_fits : (z : ℤ) (k : ℕ) (l : Option FirstDigits) (o : Option ℕ) → FitsPType I64 z
    → GivesType (integer_type I64 false) (placed_or z k l o)
or_fits z k l (Some d) h =
    float_fits (placed_float z k d) (round-fits binary64 (int_lt z (pos 0)) d (10 ^ k))
or_fits z k (Some l) None h = digits_fit z l h
or_fits z k None None h = h

placed_fits : (f : FloatPlaces) (z : ℤ) (k : ℕ) → FitsPType I64 z
    → GivesType (integer_type I64 false) (placed f k z)
unfolding placed
placed_fits f z k h = by (is_float z)
  where
    by : (b : Bool) → GivesType (integer_type I64 false)
        (cond b (placed_or z k (leading (unsigned_abs z))
        (rounded (rounding_of f) k (unsigned_abs z))) (faults_by OtherValues))
    by true = or_fits z k (leading (unsigned_abs z)) (rounded (rounding_of f) k (unsigned_abs z)) h
    by false = tt

key_fits : (f : FloatPlaces) (z k : ℤ) → FitsPType I64 z
    → GivesType (integer_type I64 false) (key_at f k z)
key_fits f z k h = by (places_in k)
  where
    by : (o : Option ℕ) → GivesType (integer_type I64 false) (on_key (λ n. placed f n z) o)
    by (Some n) = placed_fits f z n h
    by None = tt

places_fit : (f : FloatPlaces) (z k : ℤ) → GivesType (integer_type I64 false) (at_places f z k)
places_fit f z k = by (is_in I64 z) refl
  where
    by : (b : Bool) → is_in I64 z ≡ b
        → GivesType (integer_type I64 false) (on_key (key_at f k) (cond b (Some z) None))
    by true e = key_fits f z k (in_range I64 z e)
    by false e = tt

pub places_lawful : (f : FloatPlaces) → LawfulRow (places_row f)
places_lawful f =
    two_ints_lawful (places_id f) (Within I64) (answer.Integer I64) false (places_named f) tt
    (λ p. at_places f) (λ p n z k h g. places_fit f z k) (λ p z k e h g. cc)
