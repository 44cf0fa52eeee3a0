use Rattle.std.proofs.Common.{ap, ◌∙◌}
use Rattle.vortex_types.specs.TypePairs.{all_agree}
use Rattle.vortex_types.proofs.PairSteps.{and_true}
use Rattle.vortex_types.proofs.dtype.DType.agrees.Goals as goal

pub returns-in-Some : goal.returns-in-Some
returns-in-Some c =
    c.agree.ensures ∙ ap (all_agree c.args.exactly) c.one.ensures ∙ and_true _
