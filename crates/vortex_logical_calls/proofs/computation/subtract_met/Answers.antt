use Rattle.vortex_errors.specs.declared.error.NumericOperator.TheVariants.{Sub}
use Rattle.vortex_lowering.specs.Rows.{lowered}
use Rattle.vortex_logical_calls.proofs.ShippedCalls.{result_made}
use Rattle.vortex_logical_calls.proofs.computation.subtract_met.Goals as goal

pub returns : goal.returns
returns c =
    result_made (λ z. lowered z.tree z.operand) Sub (lowered c.args.left.tree c.args.left.operand)
    (lowered c.args.right.tree c.args.right.operand) _ c.subtract.ensures
