use Rattle.std.proofs.Common.{sym, ap, ◌∙◌, length}
use Rattle.std.specs.Prelude.{◌||◌}
use Rattle.vortex_types.specs.LogicalTypes.{bool_type, is_nullable}
use Rattle.vortex_types.specs.ScalarView.{ScalarView}
use Rattle.vortex_columns.specs.ColumnView.{row}
use Rattle.vortex_operators.specs.OperatorValues.{boolean_value}
use Rattle.vortex_arrays.proofs.Answering.{constant_answers}
use Rattle.vortex_arrays.proofs.BooleanSides.{decided_row}
use Rattle.vortex_arrays.proofs.boolean.beside_truth.Goals as goal

pub returns-then-is_decided_by : goal.returns-then-is_decided_by
returns-then-is_decided_by g c =
    let column = g.V.EncodedColumn.column c.args.array.now in
    let other = c.args.other.now in
    let op = c.args.operator in
    let left = c.nullability.ensures ∙ ap is_nullable c.dtype.ensures in
    let right = c.nullability-2.ensures ∙ ap is_nullable c.dtype-2.ensures.dtype in
    let either = c.bitor-nullability.ensures ∙ (λ i. left i || right i) in
    constant_answers (bool_type (is_nullable column.dtype || is_nullable other.dtype))
    (length column.rows) (λ i. boolean_value op (row column.rows i) (row other.rows i))
    c.bool-scalar.result c.len.result c.constant.result
    (ap (λ (s : ScalarView). s.dtype) c.bool-scalar.ensures ∙ ap bool_type either) c.len.ensures
    (λ i lt.
    ap (λ (s : ScalarView). s.value) c.bool-scalar.ensures
    ∙ decided_row op c.args.value column other c.requires.operator
    (sym c.is_decided_by.ensures ∙ c.if-is_decided_by.true) c.requires.lengths c.requires.constant i lt)
    c.constant.ensures
