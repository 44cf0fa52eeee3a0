-- Casts of floats to decimals: of the first 15 significant digits, rounded at the scale, as
-- PostgreSQL casts a float8 to numeric.
use Rattle.std.specs.Prelude.{◌≡◌, ◌+◌, ◌-◌, ◌*◌, ◌^◌, ◌∷◌, ℕ, ℤ, [], List, Option, Some, None, Bool}
use Rattle.std.specs.Prelude.{true, false, codes, refl, unsigned_abs, if◌then◌else◌}
use Rattle.std.proofs.Common.{cond}
use Rattle.vortex_errors.specs.declared.arity.Arity.TheVariants.{Exact}
use Rattle.vortex_types.specs.declared.dtype.PType.TheVariants.{I64}
use Rattle.vortex_types.specs.LogicalTypes.{integer_type}
use Rattle.vortex_types.specs.Values.{Value}
use Rattle.vortex_interface.specs.Outcomes.{Outcome, GivesType}
use Rattle.vortex_float_texts.specs.declared.leading.FirstDigits.{FirstDigits}
use Rattle.vortex_float_texts.specs.declared.places.PlaceRounding.TheVariants.{Half}
use Rattle.vortex_float_texts.specs.Leading.{is_float, leading}
use Rattle.vortex_float_texts.specs.Places.{at_place}
use Rattle.vortex_logical.specs.Decimals.{within_digits}
use Rattle.vortex_logical.specs.Digits.{Digits}
use Rattle.vortex_sql_rows.specs.declared.faults.RowFault.TheVariants as fault
use Rattle.vortex_sql_rows.specs.declared.types.Gives.TheVariants as answer
use Rattle.vortex_sql_rows.specs.declared.types.Kind.TheVariants.{Integer, Within}
use Rattle.vortex_sql_rows.specs.declared.types.Takes.TheVariants.{Each}
use Rattle.vortex_sql_rows.specs.Faults.{faults_by}
use Rattle.vortex_sql_rows.specs.Integers.{checked, int_or_fault}
use Rattle.vortex_sql_rows.specs.Row.{Row, LawfulRow}
use Rattle.vortex_sql_rows.specs.Shapes.{number_in, strict_lawful, strict_of, three_fit, with_three}
use Rattle.vortex_sql_kind_texts.specs.DecimalRounding.{with_sign}
use Rattle.vortex_sql_kind_texts.specs.DecimalScales.{digits_fit}
use Rattle.vortex_sql_kind_texts.specs.StoredRows.{digits_in, on_taken, precision_bound}

-- how many of 10 to the power of minus s, if that was rounded, or all
abbrev pub units_or : ℕ → FirstDigits → Option ℕ → ℕ
units_or s l (Some n) = n
units_or s l None = l.digits * 10 ^ (l.power + s - 400)

abbrev pub units_at : ℕ → FirstDigits → ℕ
units_at s l = units_or s l (at_place Half s l)

-- with the sign of z, if a decimal of these digits has it
abbrev pub decimal_at : ℤ → Digits → Option FirstDigits → Option ℤ
decimal_at z d (Some l) = within_digits d.precision (with_sign z (units_at d.scale l))
decimal_at z d None = None

-- of a stored float
unfoldable pub float_decimal : ℤ → Digits → Outcome
float_decimal z d =
    if is_float z then int_or_fault fault.DecimalDigits (decimal_at z d (leading (unsigned_abs z)))
    else faults_by fault.OtherValues

abbrev pub key_decimal : ℤ → ℤ → ℤ → Outcome
key_decimal s p z = on_taken (float_decimal z) (digits_in p s)

-- of a number, a scale and a precision
abbrev pub number_decimal : ℤ → ℤ → ℤ → Outcome
number_decimal z s p = on_taken (key_decimal s p) (checked I64 z)

abbrev pub float_decimal_of : List Value → Outcome
float_decimal_of (v ∷ w ∷ x ∷ []) =
    with_three number_decimal (number_in v) (number_in w) (number_in x)
float_decimal_of vs = faults_by fault.OtherValues

abbrev pub float_decimal_row : Row
float_decimal_row =
    strict_of (codes "sql.float_to_decimal") (Exact 3) (Each (Within I64) Integer Integer)
    (answer.Integer I64) false (λ p vs. float_decimal_of vs)

at_fits : (z p s : ℤ) (d : Digits) → digits_in p s ≡ Some d → (o : Option FirstDigits)
    → GivesType (integer_type I64 false) (int_or_fault fault.DecimalDigits (decimal_at z d o))
at_fits z p s d e (Some l) =
    digits_fit d.precision (with_sign z (units_at d.scale l)) (precision_bound p s d e)
at_fits z p s d e None = tt

float_fits : (z p s : ℤ) (d : Digits) → digits_in p s ≡ Some d
    → GivesType (integer_type I64 false) (float_decimal z d)
unfolding float_decimal
float_fits z p s d e = by (is_float z)
  where
    by : (b : Bool) → GivesType (integer_type I64 false)
        (cond b (int_or_fault fault.DecimalDigits (decimal_at z d (leading (unsigned_abs z))))
        (faults_by fault.OtherValues))
    by true = at_fits z p s d e (leading (unsigned_abs z))
    by false = tt

key_fits : (z p s : ℤ) → GivesType (integer_type I64 false) (key_decimal s p z)
key_fits z p s = by (digits_in p s) refl
  where
    by : (d : Option Digits) → digits_in p s ≡ d
        → GivesType (integer_type I64 false) (on_taken (float_decimal z) d)
    by None e = tt
    by (Some d) e = float_fits z p s d e

number_fits : (z s p : ℤ) → GivesType (integer_type I64 false) (number_decimal z s p)
number_fits z s p = by (checked I64 z)
  where
    by : (n : Option ℤ) → GivesType (integer_type I64 false) (on_taken (key_decimal s p) n)
    by None = tt
    by (Some y) = key_fits y p s

decimal_fits : (vs : List Value) → GivesType (integer_type I64 false) (float_decimal_of vs)
decimal_fits (v ∷ w ∷ x ∷ []) =
    three_fit (integer_type I64 false) number_decimal number_fits (number_in v) (number_in w)
    (number_in x)
decimal_fits [] = tt
decimal_fits (v ∷ []) = tt
decimal_fits (v ∷ w ∷ []) = tt
decimal_fits (v ∷ w ∷ x ∷ y ∷ vs) = tt

pub float_decimal_lawful : LawfulRow float_decimal_row
float_decimal_lawful =
    strict_lawful (codes "sql.float_to_decimal") (Exact 3) (Each (Within I64) Integer Integer)
    (answer.Integer I64) false (λ p vs. float_decimal_of vs) refl (λ t vs a. decimal_fits vs)
    (λ t vs a e. cc)
