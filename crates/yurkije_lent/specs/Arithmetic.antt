-- Arithmetic of two operands.
use Rattle.std.specs.Prelude.{ℤ, Option}
use Rattle.vortex_errors.specs.declared.error.NumericOperator.{NumericOperator}
use Rattle.vortex_columns.specs.ColumnView.{ColumnView}
use Rattle.vortex_kernels.specs.Numeric.{AnswersNumeric, IsExactOf}

-- the column of the operator whose exact result this is
abbrev pub HasExactRows : (ℤ → ℤ → Option ℤ) → ColumnView → ColumnView → ColumnView → Type 0
HasExactRows exact l r c = (op : NumericOperator) → IsExactOf op exact → AnswersNumeric op l r c
