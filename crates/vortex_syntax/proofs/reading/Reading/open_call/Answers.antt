use Rattle.vortex_syntax.proofs.LastStep.{opened}
use Rattle.vortex_syntax.proofs.reading.Reading.open_call.Goals as goal

pub returns-in_ok-wait-in-Some : goal.returns-in_ok-wait-in-Some
returns-in_ok-wait-in-Some c =
    opened _ _ _ _ _ _ c.in_ok-wait-in-Some.ensures.frames c.in_ok-wait-in-Some.ensures.steps
    c.in-Some.ensures
