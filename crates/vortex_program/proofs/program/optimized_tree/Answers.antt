use Rattle.vortex_program.proofs.Optimized.{optimized_by}
use Rattle.vortex_program.proofs.program.optimized_tree.Goals as goal

pub returns : goal.returns
returns c =
    let o = c.in_ok-optimized.optimized in
    let made = c.in_ok-optimized.ensures in
    optimized_by c.args.tree.now o.tree o.steps c.weight.result o.done c.weight.ensures.told made.run
    made.limited made.done made.stopped made.kept
