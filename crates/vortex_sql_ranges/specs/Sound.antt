-- The ranges of SQL's functions admit the outcomes of their calls.
use Rattle.std.specs.Prelude.{List}
use Rattle.vortex_types.specs.LogicalTypes.{LogicalType}
use Rattle.vortex_types.specs.declared.dtype.PType.{PType}
use Rattle.vortex_ranges.specs.Calls.{AdmitsCalls}
use Rattle.vortex_ranges.specs.Ranges.{RangeView}
use Rattle.vortex_ranges.specs.ShippedCalls.{cast_range}
use Rattle.vortex_sql_choices.specs.declared.truth_tests.TruthTest.{TruthTest}
use Rattle.vortex_sql_choices.specs.Coalesce.{coalesce_row}
use Rattle.vortex_sql_choices.specs.Distinct.{distinct_row}
use Rattle.vortex_sql_choices.specs.InList.{in_list_row}
use Rattle.vortex_sql_choices.specs.TruthTests.{test_row}
use Rattle.vortex_sql_numbers.specs.Casts.{widen_row}
use Rattle.vortex_sql_rows.specs.Row.{Row, row_type, row_means}
use Rattle.vortex_sql_ranges.specs.Choices.{coalesce_range}
use Rattle.vortex_sql_ranges.specs.Distinct.{distinct_range}
use Rattle.vortex_sql_ranges.specs.Listed.{in_list_range}
use Rattle.vortex_sql_ranges.specs.TruthTests.{test_range}

-- of each call, whatever its type and the ranges of its arguments
abbrev pub AdmitsRow : Row → (List RangeView → RangeView) → Type 0
AdmitsRow row range =
    (t : LogicalType) (rs : List RangeView)
    → AdmitsCalls (row_type row) (row_means row) t rs (range rs)

pub record AdmitSql : Type 0 where
  pub in_list : AdmitsRow in_list_row in_list_range
  pub distinct : AdmitsRow distinct_row distinct_range
  pub tests : (test : TruthTest) → AdmitsRow (test_row test) (test_range test)
  pub coalesce : AdmitsRow coalesce_row coalesce_range
  pub widen : (p : PType) → AdmitsRow (widen_row p) cast_range
