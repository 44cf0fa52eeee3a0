-- Conversions to floats of 64 bits: of integers, and of floats of 32 bits. They cannot fault.
use Rattle.std.specs.Prelude.{◌≡◌, ◌⊎◌, codes, Option, Some, None, ℤ, Bool, true, false}
use Rattle.std.specs.Prelude.{if◌then◌else◌, refl}
use Rattle.std.proofs.Common.{arith, cond, inl, inr, subst, sym}
use Rattle.std.proofs.lemmas.Int.{ints}
use Rattle.std.specs.Float.{Float, binary32, binary64}
use lib.Ieee.{of_int}
use lib.Ieee.Fits.{of_int-fits, fits_widens}
use Rattle.vortex_types.specs.declared.dtype.PType.{PType}
use Rattle.vortex_types.specs.declared.dtype.PType.TheVariants.{I8, I16, I32, I64, U8, U16, U32}
use Rattle.vortex_types.specs.declared.dtype.PType.TheVariants.{U64}
use Rattle.vortex_types.specs.LogicalTypes.{integer_type}
use Rattle.vortex_types.specs.Typing.{FitsPType}
use Rattle.vortex_types.specs.Values.{number}
use Rattle.vortex_interface.specs.Outcomes.{Outcome, gives, GivesType, GivesValue}
use Rattle.vortex_logical.specs.FloatKeys.{float_of_key}
use Rattle.vortex_logical.specs.MeetingLaws.{wide_key}
use Rattle.vortex_sql_rows.specs.declared.types.Gives.TheVariants as answer
use Rattle.vortex_sql_rows.specs.declared.types.Kind.TheVariants.{Integer, Within}
use Rattle.vortex_sql_rows.specs.declared.types.Takes.TheVariants.{Alike}
use Rattle.vortex_sql_rows.specs.Integers.{checked}
use Rattle.vortex_sql_rows.specs.Types.{is_in}
use Rattle.vortex_sql_rows.specs.Row.{Row, LawfulRow}
use Rattle.vortex_sql_rows.specs.Shapes.{strict_row, one_int, one_int_lawful}
use Rattle.vortex_sql_floats.specs.FloatOutcomes.{gives_float, on_key}
use Rattle.vortex_sql_floats.specs.FloatFits.{read_fits}
use Rattle.vortex_sql_floats.specs.KeyRanges.{float_fits, in_type, is_checked, on_key_fits}
use Rattle.vortex_sql_floats.specs.KeyRanges.{one_key_lawful}

-- an integer of some type, rounded once
abbrev pub nearest_float : ℤ → Option Float
nearest_float z =
    if is_in I64 z then Some (of_int binary64 z)
    else if is_in U64 z then Some (of_int binary64 z)
    else None

abbrev pub converted : ℤ → Outcome
converted z = on_key gives_float (nearest_float z)

abbrev pub from_int_row : Row
from_int_row =
    strict_row (codes "sql.int_to_float") 1 (Alike Integer) (answer.Integer I64) true
    (one_int (λ p. converted))

-- the integer of the same float
abbrev pub wide : ℤ → Outcome
wide k = gives (number (wide_key k))

abbrev pub widened : ℤ → Outcome
widened z = on_key wide (checked I32 z)

abbrev pub widen_row : Row
widen_row =
    strict_row (codes "sql.float_widen") 1 (Alike (Within I32)) (answer.Integer I64) true
    (one_int (λ p. widened))

-- each integer type lies within one of 64 bits
some_range : (p : PType) (z : ℤ) → FitsPType p z → (is_in I64 z ≡ true) ⊎ (is_in U64 z ≡ true)
some_range I8 z h = inl (in_type I64 z (omega (arith, ints, h.0), omega (arith, ints, h.1)))
some_range I16 z h = inl (in_type I64 z (omega (arith, ints, h.0), omega (arith, ints, h.1)))
some_range I32 z h = inl (in_type I64 z (omega (arith, ints, h.0), omega (arith, ints, h.1)))
some_range I64 z h = inl (in_type I64 z h)
some_range U8 z h = inl (in_type I64 z (omega (arith, ints, h.0), omega (arith, ints, h.1)))
some_range U16 z h = inl (in_type I64 z (omega (arith, ints, h.0), omega (arith, ints, h.1)))
some_range U32 z h = inl (in_type I64 z (omega (arith, ints, h.0), omega (arith, ints, h.1)))
some_range U64 z h = inr (in_type U64 z h)

nearest_is : (z : ℤ) → (is_in I64 z ≡ true) ⊎ (is_in U64 z ≡ true)
    → GivesValue (converted z)
nearest_is z h = by (is_in I64 z) (is_in U64 z) h
  where
    by : (a b : Bool) → (a ≡ true) ⊎ (b ≡ true)
        → GivesValue (on_key gives_float
        (cond a (Some (of_int binary64 z)) (cond b (Some (of_int binary64 z)) None)))
    by true b h = tt
    by false true h = tt
    by false false (inl e) = cc
    by false false (inr e) = cc

int_fits : (z : ℤ) → GivesType (integer_type I64 false) (converted z)
int_fits z = by (is_in I64 z) (is_in U64 z)
  where
    by : (a b : Bool) → GivesType (integer_type I64 false) (on_key gives_float
        (cond a (Some (of_int binary64 z)) (cond b (Some (of_int binary64 z)) None)))
    by true b = float_fits (of_int binary64 z) (of_int-fits binary64 z)
    by false true = float_fits (of_int binary64 z) (of_int-fits binary64 z)
    by false false = tt

pub from_int_lawful : LawfulRow from_int_row
from_int_lawful =
    one_int_lawful (codes "sql.int_to_float") Integer (answer.Integer I64) true refl tt
    (λ p. converted) (λ p n z k h. int_fits z)
    (λ p z e h. nearest_is z (some_range p z h))

wide_fits_key : (k : ℤ) → GivesType (integer_type I64 false) (wide k)
wide_fits_key k =
    float_fits (float_of_key binary32 k)
    (fits_widens (float_of_key binary32 k) (read_fits binary32 k))

pub widen_lawful : LawfulRow widen_row
widen_lawful =
    one_key_lawful (codes "sql.float_widen") I32 refl widened
    (λ z. on_key_fits (integer_type I64 false) wide wide_fits_key (checked I32 z))
    (λ z h. subst (λ o. GivesValue (on_key wide o)) (sym (is_checked I32 z h)) tt)
