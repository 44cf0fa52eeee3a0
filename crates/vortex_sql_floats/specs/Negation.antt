-- Minus before a float of 64 bits, over the integer that stands for it. It cannot fault.
use Rattle.std.specs.Prelude.{codes, ℤ, true, false, refl}
use Rattle.std.specs.Float.{binary64}
use Rattle.std.proofs.Common.{subst, sym}
use lib.Ieee.{neg}
use lib.Ieee.Fits.{neg-fits}
use Rattle.vortex_types.specs.declared.dtype.PType.TheVariants.{I64}
use Rattle.vortex_types.specs.LogicalTypes.{integer_type}
use Rattle.vortex_interface.specs.Outcomes.{Outcome, GivesType, GivesValue}
use Rattle.vortex_logical.specs.FloatKeys.{float_of_key}
use Rattle.vortex_sql_rows.specs.declared.types.Gives.TheVariants as answer
use Rattle.vortex_sql_rows.specs.declared.types.Kind.TheVariants.{Within}
use Rattle.vortex_sql_rows.specs.declared.types.Takes.TheVariants.{Alike}
use Rattle.vortex_sql_rows.specs.Integers.{checked}
use Rattle.vortex_sql_rows.specs.Row.{Row, LawfulRow}
use Rattle.vortex_sql_rows.specs.Shapes.{strict_row, one_int}
use Rattle.vortex_sql_floats.specs.FloatOutcomes.{gives_float, on_key}
use Rattle.vortex_sql_floats.specs.FloatFits.{read_fits}
use Rattle.vortex_sql_floats.specs.KeyRanges.{float_fits, is_checked, on_key_fits}
use Rattle.vortex_sql_floats.specs.KeyRanges.{one_key_lawful}

-- of a number of 64 bits
abbrev pub minus : ℤ → Outcome
minus k = gives_float (neg (float_of_key binary64 k))

abbrev pub negated : ℤ → Outcome
negated z = on_key minus (checked I64 z)

abbrev pub negate_row : Row
negate_row =
    strict_row (codes "sql.float_negate") 1 (Alike (Within I64)) (answer.Integer I64) true
    (one_int (λ p. negated))

minus_fits : (k : ℤ) → GivesType (integer_type I64 false) (minus k)
minus_fits k =
    float_fits (neg (float_of_key binary64 k))
    (neg-fits binary64 (float_of_key binary64 k) (read_fits binary64 k))

pub negate_lawful : LawfulRow negate_row
negate_lawful =
    one_key_lawful (codes "sql.float_negate") I64 refl negated
    (λ z. on_key_fits (integer_type I64 false) minus minus_fits (checked I64 z))
    (λ z h. subst (λ o. GivesValue (on_key minus o)) (sym (is_checked I64 z h)) tt)
