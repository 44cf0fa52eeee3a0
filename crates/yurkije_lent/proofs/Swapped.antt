-- A comparison with its operands swapped.
use Rattle.std.proofs.Common.{◌≡◌, ◌∙◌, length, ap, sym, arith}
use Rattle.std.proofs.Math.Bool.{or_comm}
use Rattle.vortex_types.specs.LogicalTypes.{bool_type, is_nullable}
use Rattle.vortex_columns.specs.ColumnView.{ColumnView, row}
use Rattle.vortex_operators.specs.declared.operators.CompareOperator.{CompareOperator}
use Rattle.vortex_operators.specs.Operators.{compare_swap}
use Rattle.vortex_operators.specs.ComparisonLaws.{are_swapped}
use Rattle.vortex_kernels.specs.Comparison.{HasComparisonRows}

pub swapped_rows : (op : CompareOperator) (l r c : ColumnView) → length l.rows ≡ length r.rows
    → HasComparisonRows (compare_swap op) r l c → HasComparisonRows op l r c
swapped_rows op l r c same h = record {
  dtype = h.dtype ∙ ap bool_type (or_comm (is_nullable r.dtype) (is_nullable l.dtype));
  count = h.count ∙ sym same;
  each = λ i lt.
      h.each i (omega (arith, lt, same)) ∙ sym (are_swapped op (row l.rows i) (row r.rows i));
}
