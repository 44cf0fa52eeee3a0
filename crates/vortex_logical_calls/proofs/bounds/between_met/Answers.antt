use Rattle.vortex_lowering.specs.Rows.{lowered}
use Rattle.vortex_logical_calls.proofs.ShippedCalls.{bounds_made}
use Rattle.vortex_logical_calls.proofs.bounds.between_met.Goals as goal

pub returns : goal.returns
returns c =
    bounds_made c.args.options (lowered c.args.item.tree c.args.item.operand)
    (lowered c.args.lower.tree c.args.lower.operand)
    (lowered c.args.upper.tree c.args.upper.operand) _ c.between.ensures
