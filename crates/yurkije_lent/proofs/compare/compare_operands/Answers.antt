use Rattle.std.proofs.Common.{subst}
use Rattle.std.specs.Prelude.{IfSome}
use Rattle.vortex_operators.specs.declared.operators.CompareOperator.{CompareOperator}
use Rattle.vortex_operators.specs.Operators.{compare_swap}
use Rattle.vortex_kernels.specs.Comparison.{HasComparisonRows}
use Rattle.yurkije_lent.specs.Operands.{operand_column}
use Rattle.yurkije_lent.proofs.Optional.{some_weaker}
use Rattle.yurkije_lent.proofs.Swapped.{swapped_rows}
use Rattle.yurkije_lent.proofs.compare.compare_operands.Goals as goal

pub returns-then-is_one : goal.returns-then-is_one
returns-then-is_one c =
    let op = c.args.operator in
    let l = operand_column c.args.left.now in
    let r = operand_column c.args.right.now in
    some_weaker c.compare_beside.result (HasComparisonRows (compare_swap op) r l)
    (HasComparisonRows op l r) (λ d h. swapped_rows op l r d c.requires h)
    (subst
    (λ (o : CompareOperator). IfSome c.compare_beside.result (HasComparisonRows o r l))
    c.swap.ensures.table c.compare_beside.ensures)
