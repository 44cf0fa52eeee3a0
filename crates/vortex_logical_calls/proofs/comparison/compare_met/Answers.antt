use Rattle.vortex_lowering.specs.Rows.{lowered}
use Rattle.vortex_logical_calls.proofs.ShippedCalls.{comparison_made}
use Rattle.vortex_logical_calls.proofs.comparison.compare_met.Goals as goal

pub returns : goal.returns
returns c =
    comparison_made c.args.operator (lowered c.args.left.tree c.args.left.operand)
    (lowered c.args.right.tree c.args.right.operand) _ c.compare.ensures
