use Rattle.vortex_pruning.proofs.VerdictsKept.{verdicts_kept}
use Rattle.vortex_pruning.proofs.laws.verdicts_hold_of_rewrites.Goals as goal

pub returns : goal.returns
returns g c =
    verdicts_kept g.C.ScalarFnVTable.meaning c.args.rows c.args.statistics.now c.args.tree.now
    c.dtype-typed.ensures.typed
