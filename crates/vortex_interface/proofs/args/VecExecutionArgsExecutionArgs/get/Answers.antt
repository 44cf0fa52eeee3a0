use Rattle.std.proofs.Common.{ap, ◌∙◌, arith}
use Rattle.vortex_interface.specs.Args.{ArgsView}
use Rattle.vortex_interface.proofs.InputLemmas.{count_here}
use Rattle.vortex_interface.proofs.args.VecExecutionArgsExecutionArgs.get.Goals as goal

pub returns-then-index-len-clause-count : goal.returns-then-index-len-clause-count
returns-then-index-len-clause-count c =
    count_here c.self.inside.inputs.items c.self.inside.row_count c.args.index _ _ c.self.invariant
    (omega (arith, c.self.inside.inputs.ok.0)) c.index-input.ensures c.deref.ensures
    ∙ ap (λ (a : ArgsView). a.row_count) c.self.view_is
