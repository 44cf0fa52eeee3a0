-- Casts of floats of 64 bits to integer types: rounded to the nearest integer, from halfway to the
-- even one, as PostgreSQL rounds; a fault where the type does not have that, and of a NaN.
use Rattle.std.specs.Prelude.{◌≡◌, codes, get_or, Option, Some, None, ℕ, ℤ, List, false, refl}
use Rattle.std.specs.Float.{Float, binary64, round_ties_even}
use Rattle.vortex_types.specs.declared.dtype.PType.{PType}
use Rattle.vortex_types.specs.declared.dtype.PType.TheVariants.{I8, I16, I32, I64, U8, U16, U32}
use Rattle.vortex_types.specs.declared.dtype.PType.TheVariants.{U64}
use Rattle.vortex_types.specs.LogicalTypes.{integer_type}
use Rattle.vortex_interface.specs.Outcomes.{Outcome, GivesType}
use Rattle.vortex_logical.specs.FloatKeys.{float_of_key}
use Rattle.vortex_sql_rows.specs.declared.faults.RowFault.TheVariants.{OutOfRange}
use Rattle.vortex_sql_rows.specs.declared.types.Gives.TheVariants as answer
use Rattle.vortex_sql_rows.specs.declared.types.Kind.TheVariants.{Within}
use Rattle.vortex_sql_rows.specs.declared.types.Takes.TheVariants.{Alike}
use Rattle.vortex_sql_rows.specs.Integers.{checked, checked_fits, int_or_fault}
use Rattle.vortex_sql_rows.specs.Row.{Row, LawfulRow}
use Rattle.vortex_sql_rows.specs.Shapes.{strict_row, one_int, one_int_lawful}
use Rattle.vortex_sql_floats.specs.FloatOutcomes.{on_key}
use Rattle.vortex_sql_floats.specs.KeyRanges.{on_key_fits}
use Rattle.vortex_sql_floats.specs.WholeFloats.{signed_in, unsigned_in}

abbrev pub whole_in : PType → Float → Option ℤ
whole_in U64 x = unsigned_in x
whole_in p x = signed_in x

abbrev pub checked_by : PType → Option ℤ → Option ℤ
checked_by p (Some z) = checked p z
checked_by p None = None

-- the nearest integer, if the type has it
abbrev pub rounded_in : PType → Float → Option ℤ
rounded_in p x = checked_by p (whole_in p (round_ties_even binary64 x))

abbrev pub cast_float : PType → ℤ → Outcome
cast_float p k = int_or_fault (OutOfRange p) (rounded_in p (float_of_key binary64 k))

abbrev pub to_integer : PType → ℤ → Outcome
to_integer p z = on_key (cast_float p) (checked I64 z)

abbrev pub to_int_id : PType → List ℕ
to_int_id I8 = codes "sql.float_to_i8"
to_int_id I16 = codes "sql.float_to_i16"
to_int_id I32 = codes "sql.float_to_i32"
to_int_id I64 = codes "sql.float_to_i64"
to_int_id U8 = codes "sql.float_to_u8"
to_int_id U16 = codes "sql.float_to_u16"
to_int_id U32 = codes "sql.float_to_u32"
to_int_id U64 = codes "sql.float_to_u64"

abbrev pub to_int_row : PType → Row
to_int_row q =
    strict_row (to_int_id q) 1 (Alike (Within I64)) (answer.Integer q) false
    (one_int (λ p. to_integer q))

to_int_named : (q : PType) → get_or (to_int_id q) 0 0 ≡ 115
to_int_named I8 = refl
to_int_named I16 = refl
to_int_named I32 = refl
to_int_named I64 = refl
to_int_named U8 = refl
to_int_named U16 = refl
to_int_named U32 = refl
to_int_named U64 = refl

checked_by_fits : (q : PType) (o : Option ℤ)
    → GivesType (integer_type q false) (int_or_fault (OutOfRange q) (checked_by q o))
checked_by_fits q (Some z) = checked_fits (OutOfRange q) q z
checked_by_fits q None = tt

pub to_int_lawful : (q : PType) → LawfulRow (to_int_row q)
to_int_lawful q =
    one_int_lawful (to_int_id q) (Within I64) (answer.Integer q) false (to_int_named q) tt
    (λ p. to_integer q)
    (λ p n z k h.
    on_key_fits (integer_type q false) (cast_float q)
    (λ y. checked_by_fits q (whole_in q (round_ties_even binary64 (float_of_key binary64 y))))
    (checked I64 z))
    (λ p z e h. cc)
