-- The ranges of functions of dates and timestamps admit the outcomes of their calls.
use Rattle.std.specs.Prelude.{◌≡◌, List, true}
use Rattle.vortex_types.specs.LogicalTypes.{LogicalType}
use Rattle.vortex_sql_dates.specs.declared.parts.Part.{Part}
use Rattle.vortex_sql_dates.specs.declared.truncations.Unit.{Unit}
use Rattle.vortex_sql_dates.specs.Casts.{beginning_row, day_row}
use Rattle.vortex_sql_dates.specs.Parts.{date_part_row, timestamp_part_row}
use Rattle.vortex_sql_dates.specs.Truncations.{date_trunc_row, timestamp_trunc_row}
use Rattle.vortex_sql_rows.specs.Row.{Row, row_type, row_means}
use Rattle.vortex_ranges.specs.Calls.{AdmitsCalls}
use Rattle.vortex_ranges.specs.Ranges.{RangeView}
use Rattle.vortex_sql_ranges.specs.Monotone.{is_monotone, monotone_range}

-- of each call, whatever its type and the range of its argument
abbrev pub AdmitsMonotone : Row → Type 0
AdmitsMonotone row =
    (t : LogicalType) (rs : List RangeView)
    → AdmitsCalls (row_type row) (row_means row) t rs (monotone_range row t rs)

pub record AdmitDates : Type 0 where
  pub date_parts : (p : Part) → is_monotone p ≡ true → AdmitsMonotone (date_part_row p)
  pub timestamp_parts : (p : Part) → is_monotone p ≡ true → AdmitsMonotone (timestamp_part_row p)
  pub date_truncations : (u : Unit) → AdmitsMonotone (date_trunc_row u)
  pub timestamp_truncations : (u : Unit) → AdmitsMonotone (timestamp_trunc_row u)
  pub to_timestamps : AdmitsMonotone beginning_row
  pub to_dates : AdmitsMonotone day_row
