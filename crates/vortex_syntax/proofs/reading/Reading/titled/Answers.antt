use Rattle.std.proofs.Common.{◌∙◌}
use Rattle.vortex_syntax.proofs.LastStep.{titled_is}
use Rattle.vortex_syntax.proofs.reading.Reading.titled.Goals as goal

pub returns : goal.returns
returns c =
    titled_is _ _ _ _ _ _ _ (c.emit_at.ensures.frames ∙ c.emit.ensures.frames)
    c.in_ok-emit.ensures.steps c.in_ok-emit_at.ensures.steps
