-- Casts between dates and timestamps: to the beginning of a day, and to the day that it is in.
use Rattle.std.specs.Prelude.{codes, ℤ, pos, ◌*ℤ◌, false, true, refl}
use Rattle.std.proofs.Common.{arith}
use Rattle.jiff_core.proofs.SignedLemmas.{signed_arith, int_div_euclid-parts}
use Rattle.vortex_types.specs.declared.dtype.PType.TheVariants.{I32, I64}
use Rattle.vortex_types.specs.Typing.{FitsPType}
use Rattle.vortex_types.specs.Values.{number}
use Rattle.vortex_interface.specs.Outcomes.{Outcome, gives}
use Rattle.vortex_sql_rows.specs.declared.faults.RowFault.TheVariants.{IntegerOutOfRange}
use Rattle.vortex_sql_rows.specs.Integers.{checked, checked_fits, int_or_fault}
use Rattle.vortex_sql_rows.specs.Row.{Row, LawfulRow}
use Rattle.vortex_sql_dates.specs.Instants.{day_of}
use Rattle.vortex_sql_dates.specs.StoredRows.{stored_row, stored_lawful, settled_lawful}

abbrev pub beginning : ℤ → Outcome
beginning z = int_or_fault IntegerOutOfRange (checked I64 (z *ℤ pos 86_400_000_000))

abbrev pub day_in : ℤ → Outcome
day_in z = gives (number (day_of z))

abbrev pub beginning_row : Row
beginning_row = stored_row (codes "sql.date_to_timestamp") I32 I64 false beginning

abbrev pub day_row : Row
day_row = stored_row (codes "sql.timestamp_to_date") I64 I32 true day_in

day_fits : (z : ℤ) → FitsPType I64 z → FitsPType I32 (day_of z)
day_fits z h =
    let parts = int_div_euclid-parts z 86_400_000_000 (omega arith) in
    (omega (arith, signed_arith, parts, h.0), omega (arith, signed_arith, parts, h.1))

pub beginning_lawful : LawfulRow beginning_row
beginning_lawful =
    stored_lawful (codes "sql.date_to_timestamp") I32 I64 refl beginning
    (λ z h. checked_fits IntegerOutOfRange I64 (z *ℤ pos 86_400_000_000))

pub day_lawful : LawfulRow day_row
day_lawful =
    settled_lawful (codes "sql.timestamp_to_date") I64 I32 refl day_in day_fits (λ z h. tt)
