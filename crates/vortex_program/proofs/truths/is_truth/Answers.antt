use Rattle.vortex_program.proofs.BitRuns.{constant_decides}
use Rattle.vortex_program.proofs.truths.is_truth.Goals as goal

pub returns-in-Some : goal.returns-in-Some
returns-in-Some c h =
    constant_decides c.args.wanted c.args.column.now c.in-Some.scalar.now c.in-Some.ensures
    (c.is_truth_scalar.ensures h)
