use Rattle.std.proofs.Common.{sym, subst, map, List}
use Rattle.vortex_types.specs.LogicalTypes.{LogicalType}
use Rattle.vortex_types.specs.TypeOf.{type_of}
use Rattle.vortex_ranges.specs.BoundViews.{range_of}
use Rattle.vortex_ranges.specs.Calls.{AdmitsCalls}
use Rattle.vortex_ranges.specs.Ranges.{RangeView}
use Rattle.vortex_sql_choices.specs.Coalesce.{coalesce_row}
use Rattle.vortex_sql_choices.specs.Distinct.{distinct_row}
use Rattle.vortex_sql_choices.specs.InList.{in_list_row}
use Rattle.vortex_sql_choices.specs.TruthTests.{test_row}
use Rattle.vortex_sql_dates.specs.Parts.{date_part_row, timestamp_part_row}
use Rattle.vortex_sql_numbers.specs.Casts.{widen_row}
use Rattle.vortex_sql_dates.specs.Casts.{beginning_row, day_row}
use Rattle.vortex_sql_dates.specs.Truncations.{date_trunc_row, timestamp_trunc_row}
use Rattle.vortex_sql_rows.specs.Row.{Row, row_type, row_means}
use Rattle.vortex_sql_ranges.proofs.Admitted.{sql_admitted}
use Rattle.vortex_sql_ranges.proofs.DatesAdmitted.{dates_admitted}
use Rattle.vortex_standard.specs.Standard.{row_of}
use Rattle.vortex_standard.specs.declared.standard.Standard.{Standard}
use Rattle.vortex_pruning.proofs.sql.StandardScalarFnRanges.range.Goals as goal

abbrev Fits : Row → LogicalType → List RangeView → RangeView → Type 0
Fits row t rs r = AdmitsCalls (row_type row) (row_means row) t rs r

-- from the function of the arm to the one that is called

pub returns-in-InList : goal.returns-in-InList
returns-in-InList c =
    let t = type_of c.args.dtype.now in
    let rs = map range_of c.args.inputs.now in
    let r = range_of c.in_list_range.result in
    subst (λ (f : Standard). Fits (row_of f) t rs r) (sym c.in-InList.is)
    (subst (λ (x : RangeView). Fits in_list_row t rs x) (sym c.in_list_range.ensures) (sql_admitted.in_list t rs))

pub returns-in-IsDistinct : goal.returns-in-IsDistinct
returns-in-IsDistinct c =
    let t = type_of c.args.dtype.now in
    let rs = map range_of c.args.inputs.now in
    let r = range_of c.distinct_range.result in
    subst (λ (f : Standard). Fits (row_of f) t rs r) (sym c.in-IsDistinct.is)
    (subst (λ (x : RangeView). Fits distinct_row t rs x) (sym c.distinct_range.ensures) (sql_admitted.distinct t rs))

pub returns-in-TruthTest : goal.returns-in-TruthTest
returns-in-TruthTest c =
    let t = type_of c.args.dtype.now in
    let rs = map range_of c.args.inputs.now in
    let r = range_of c.test_range.result in
    subst (λ (f : Standard). Fits (row_of f) t rs r) (sym c.in-TruthTest.is)
    (subst (λ (x : RangeView). Fits (test_row c.in-TruthTest.test) t rs x) (sym c.test_range.ensures) (sql_admitted.tests c.in-TruthTest.test t rs))

pub returns-in-Coalesce : goal.returns-in-Coalesce
returns-in-Coalesce c =
    let t = type_of c.args.dtype.now in
    let rs = map range_of c.args.inputs.now in
    let r = range_of c.coalesce_range.result in
    subst (λ (f : Standard). Fits (row_of f) t rs r) (sym c.in-Coalesce.is)
    (subst (λ (x : RangeView). Fits coalesce_row t rs x) (sym c.coalesce_range.ensures) (sql_admitted.coalesce t rs))

pub returns-in-Widen : goal.returns-in-Widen
returns-in-Widen c =
    let t = type_of c.args.dtype.now in
    let rs = map range_of c.args.inputs.now in
    let r = range_of c.cast_range.result in
    subst (λ (f : Standard). Fits (row_of f) t rs r) (sym c.in-Widen.is)
    (subst (λ (x : RangeView). Fits (widen_row c.in-Widen.field-0.ptype) t rs x) (sym c.cast_range.ensures) (sql_admitted.widen c.in-Widen.field-0.ptype t rs))

pub returns-in-DateToTimestamp : goal.returns-in-DateToTimestamp
returns-in-DateToTimestamp c =
    let t = type_of c.args.dtype.now in
    let rs = map range_of c.args.inputs.now in
    let r = range_of c.monotone_range.result in
    subst (λ (f : Standard). Fits (row_of f) t rs r) (sym c.in-DateToTimestamp.is)
    (subst (λ (x : RangeView). Fits beginning_row t rs x) (sym c.monotone_range.ensures) (dates_admitted.to_timestamps t rs))

pub returns-in-TimestampToDate : goal.returns-in-TimestampToDate
returns-in-TimestampToDate c =
    let t = type_of c.args.dtype.now in
    let rs = map range_of c.args.inputs.now in
    let r = range_of c.monotone_range-in-TimestampToDate.result in
    subst (λ (f : Standard). Fits (row_of f) t rs r) (sym c.in-TimestampToDate.is)
    (subst (λ (x : RangeView). Fits day_row t rs x) (sym c.monotone_range-in-TimestampToDate.ensures) (dates_admitted.to_dates t rs))

pub returns-in-DateTrunc : goal.returns-in-DateTrunc
returns-in-DateTrunc c =
    let t = type_of c.args.dtype.now in
    let rs = map range_of c.args.inputs.now in
    let r = range_of c.monotone_range-in-DateTrunc.result in
    let u = c.in-DateTrunc.function.unit in
    subst (λ (f : Standard). Fits (row_of f) t rs r) (sym c.in-DateTrunc.is)
    (subst (λ (x : RangeView). Fits (date_trunc_row u) t rs x) (sym c.monotone_range-in-DateTrunc.ensures) (dates_admitted.date_truncations u t rs))

pub returns-in-TimestampTrunc : goal.returns-in-TimestampTrunc
returns-in-TimestampTrunc c =
    let t = type_of c.args.dtype.now in
    let rs = map range_of c.args.inputs.now in
    let r = range_of c.monotone_range-in-TimestampTrunc.result in
    let u = c.in-TimestampTrunc.function.unit in
    subst (λ (f : Standard). Fits (row_of f) t rs r) (sym c.in-TimestampTrunc.is)
    (subst (λ (x : RangeView). Fits (timestamp_trunc_row u) t rs x) (sym c.monotone_range-in-TimestampTrunc.ensures) (dates_admitted.timestamp_truncations u t rs))

pub returns-in-DatePart : goal.returns-in-DatePart
returns-in-DatePart c =
    let t = type_of c.args.dtype.now in
    let rs = map range_of c.args.inputs.now in
    let r = range_of c.monotone_range-in-DatePart.result in
    let p = c.in-DatePart.function.part in
    subst (λ (f : Standard). Fits (row_of f) t rs r) (sym c.in-DatePart.is)
    (subst (λ (x : RangeView). Fits (date_part_row p) t rs x) (sym c.monotone_range-in-DatePart.ensures) (dates_admitted.date_parts p (sym c.if-is_monotone.ensures) t rs))

pub returns-in-TimestampPart : goal.returns-in-TimestampPart
returns-in-TimestampPart c =
    let t = type_of c.args.dtype.now in
    let rs = map range_of c.args.inputs.now in
    let r = range_of c.monotone_range-in-TimestampPart.result in
    let p = c.in-TimestampPart.function.part in
    subst (λ (f : Standard). Fits (row_of f) t rs r) (sym c.in-TimestampPart.is)
    (subst (λ (x : RangeView). Fits (timestamp_part_row p) t rs x) (sym c.monotone_range-in-TimestampPart.ensures) (dates_admitted.timestamp_parts p (sym c.if-is_monotone-2.ensures) t rs))
