-- How many bits a text has: `bit_length`.
use Rattle.std.specs.Prelude.{◌*◌, codes, ℕ, List, pos, length, false, refl}
use Rattle.vortex_types.specs.declared.dtype.PType.TheVariants.{I64}
use Rattle.vortex_interface.specs.Outcomes.{Outcome}
use Rattle.vortex_sql_rows.specs.declared.faults.RowFault.TheVariants.{TextTooLong}
use Rattle.vortex_sql_rows.specs.declared.types.Gives.TheVariants as answer
use Rattle.vortex_sql_rows.specs.declared.types.Kind.TheVariants.{Text}
use Rattle.vortex_sql_rows.specs.declared.types.Takes.TheVariants.{Alike}
use Rattle.vortex_sql_rows.specs.Integers.{checked, checked_fits, int_or_fault}
use Rattle.vortex_sql_rows.specs.Row.{Row, LawfulRow}
use Rattle.vortex_sql_rows.specs.Shapes.{one_text, one_text_lawful, strict_row}

-- eight for each byte
abbrev pub bit_length : List ℕ → Outcome
bit_length bs = int_or_fault TextTooLong (checked I64 (pos (8 * length bs)))

abbrev pub bit_length_row : Row
bit_length_row =
    strict_row (codes "sql.bit_length") 1 (Alike Text) (answer.Integer I64) false
    (one_text bit_length)

pub bit_length_lawful : LawfulRow bit_length_row
bit_length_lawful =
    one_text_lawful (codes "sql.bit_length") (answer.Integer I64) false refl bit_length
    (λ n bs u. checked_fits TextTooLong I64 (pos (8 * length bs))) (λ bs e u. cc)
