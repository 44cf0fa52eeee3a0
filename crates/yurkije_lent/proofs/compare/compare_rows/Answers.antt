use Rattle.std.proofs.Common.{length}
use Rattle.std.specs.Prelude.{false, not, ◌||◌, slice_index_or}
use Rattle.vortex_types.specs.LogicalTypes.{is_nullable}
use Rattle.vortex_types.specs.Values.{is_null}
use Rattle.vortex_columns.specs.ColumnView.{row}
use Rattle.vortex_columns.specs.ValidityView.{validity_of}
use Rattle.vortex_operators.specs.OperatorValues.{comparison_value}
use Rattle.vortex_kernels.specs.Comparison.{HasComparisonRows}
use Rattle.vortex_kernels.proofs.Comparing.{comparison_at}
use Rattle.vortex_kernels.proofs.RowLemmas.{bool_answers}
use Rattle.yurkije_lent.specs.Operands.{operand_column}
use Rattle.yurkije_lent.proofs.Dropped.{some_of}
use Rattle.yurkije_lent.proofs.compare.compare_rows.Goals as goal

pub returns : goal.returns
returns g c =
    let op = g.P.Comparison.operator in
    let l = operand_column c.args.left.now in
    let r = operand_column c.args.right.now in
    let bits = c.in_ok-bits.bits in
    let compared = c.in_ok-bits.ensures in
    some_of (HasComparisonRows op l r) (HasComparisonRows op l r) (λ d h. h) c.try_bool.result
    c.ok.result c.ok.ensures.value
    (bool_answers (is_nullable l.dtype || is_nullable r.dtype) (length l.rows)
    (λ i. not (is_null (row l.rows i) || is_null (row r.rows i)))
    (λ i. comparison_value op (row l.rows i) (row r.rows i)) bits
    (validity_of c.in_ok-validity.validity) c.try_bool.result compared.count
    c.in_ok-validity.ensures
    (λ i lt.
    comparison_at op (row l.rows i) (row r.rows i) (slice_index_or bits i false)
    (compared.each i lt))
    c.try_bool.ensures)
