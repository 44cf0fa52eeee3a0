use Rattle.vortex_lowering.specs.Rows.{lowered}
use Rattle.vortex_logical_calls.proofs.ShippedCalls.{aligned_is, aligned_none}
use Rattle.vortex_logical_calls.proofs.alignment.lengthened.Goals as goal

pub returns-in-Ok : goal.returns-in-Ok
returns-in-Ok c =
    aligned_is c.args.common.now (lowered c.args.item.tree c.args.item.operand) _ c.in-Ok.ensures

pub returns-in-Err : goal.returns-in-Err
returns-in-Err c =
    aligned_none c.args.common.now (lowered c.args.item.tree c.args.item.operand) _ c.in-Err.ensures
