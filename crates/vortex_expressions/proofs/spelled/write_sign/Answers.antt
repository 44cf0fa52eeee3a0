use Rattle.std.proofs.Common.{refl}
use Rattle.vortex_expressions.proofs.Walked.{pushes_one}
use Rattle.vortex_expressions.proofs.spelled.write_sign.Goals as goal

pub returns : goal.returns
returns c = (refl, pushes_one _ c.args.writer.now c.push_sign.new.self c.in_ok-push_sign.ensures)
