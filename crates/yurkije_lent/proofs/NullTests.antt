-- Null tests of a column that is null where another is.
use Rattle.std.proofs.Common.{◌∙◌, Bool, true, false, ap, arith}
use Rattle.std.specs.Prelude.{not}
use Rattle.vortex_types.specs.Values.{truth}
use Rattle.vortex_columns.specs.ColumnView.{ColumnView}
use Rattle.vortex_kernels.specs.NullTests.{HasTests}
use Rattle.vortex_interface.specs.Shipped.NullTestFunctions.{null_test_value}
use Rattle.yurkije_lent.specs.Operands.{HasNullsOf}

pub same_tests : (negated : Bool) (x c d : ColumnView) → HasNullsOf x c
    → HasTests (null_test_value negated) c d → HasTests (null_test_value negated) x d
same_tests false x c d nulls h = record {
  dtype = h.dtype;
  count = h.count ∙ nulls.count;
  each = λ i lt. h.each i (omega (arith, lt, nulls.count)) ∙ ap truth (nulls.each i lt);
}
same_tests true x c d nulls h = record {
  dtype = h.dtype;
  count = h.count ∙ nulls.count;
  each = λ i lt.
      h.each i (omega (arith, lt, nulls.count)) ∙ ap (λ b. truth (not b)) (nulls.each i lt);
}
