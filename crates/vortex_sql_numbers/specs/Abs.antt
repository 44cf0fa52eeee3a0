-- The absolute value; a fault where the type does not have it.
use Rattle.std.specs.Prelude.{codes, false, ℤ, pos, negsuc, suc, refl}
use Rattle.vortex_types.specs.declared.dtype.PType.{PType}
use Rattle.vortex_interface.specs.Outcomes.{Outcome}
use Rattle.vortex_sql_rows.specs.declared.faults.RowFault.TheVariants.{AbsOverflow}
use Rattle.vortex_sql_rows.specs.declared.types.Gives.TheVariants as answer
use Rattle.vortex_sql_rows.specs.declared.types.Kind.TheVariants.{Integer}
use Rattle.vortex_sql_rows.specs.declared.types.Takes.TheVariants.{Alike}
use Rattle.vortex_sql_rows.specs.Integers.{checked, checked_fits, int_or_fault}
use Rattle.vortex_sql_rows.specs.Row.{Row, LawfulRow}
use Rattle.vortex_sql_rows.specs.Shapes.{strict_row, one_int, one_int_lawful}

abbrev pub magnitude : ℤ → ℤ
magnitude (pos n) = pos n
magnitude (negsuc n) = pos (suc n)

abbrev pub abs_of : PType → ℤ → Outcome
abs_of p z = int_or_fault AbsOverflow (checked p (magnitude z))

abbrev pub abs_row : Row
abs_row = strict_row (codes "sql.abs") 1 (Alike Integer) answer.Alike false (one_int abs_of)

pub abs_lawful : LawfulRow abs_row
abs_lawful =
    one_int_lawful (codes "sql.abs") Integer answer.Alike false refl tt abs_of
    (λ p n z k h. checked_fits AbsOverflow p (magnitude z)) (λ p z e h. cc)
