use Rattle.vortex_syntax.proofs.LastStep.{word_taken}
use Rattle.vortex_syntax.proofs.reading.Reading.word_of.Goals as goal

pub returns-in_ok-wait-in-Some : goal.returns-in_ok-wait-in-Some
returns-in_ok-wait-in-Some c =
    word_taken _ _ _ _ _ _ _ _ _ c.emit_at.ensures.frames c.in_ok-wait-in-Some.ensures.frames
    c.in_ok-emit_at-in-Some.ensures.steps c.wait.ensures.steps c.in-Some.ensures
