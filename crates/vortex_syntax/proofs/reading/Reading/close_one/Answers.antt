use Rattle.std.proofs.Common.{◌++◌, ◌∷◌, [], ap, sym, ◌∙◌, arith}
use Rattle.vortex_syntax.specs.Frames.{frame_in}
use Rattle.vortex_syntax.specs.Reading.{frames_in, steps_in, settled}
use Rattle.vortex_syntax.proofs.Settling.{none_stays, stays, closes}
use Rattle.vortex_syntax.proofs.reading.Reading.close_one.Goals as goal

pub returns-in_default-clause-closes : goal.returns-in_default-clause-closes
returns-in_default-clause-closes c = λ l. none_stays c.args.reach l _ _ c.in_default.ensures

pub returns-then-reach-guard-clause-closes : goal.returns-then-reach-guard-clause-closes
returns-then-reach-guard-clause-closes c =
    λ l. stays c.args.reach l _ _ (frame_in c.in-Some.frame) c.in-Some.ensures.0 c.in-Some.ensures.1
    (omega (arith, c.guard.ensures))

pub returns-clause-closes : goal.returns-clause-closes
returns-clause-closes c = λ l.
    closes c.args.reach l _ _ (frame_in c.in-Some.frame) c.in-Some.ensures.0 (frames_in c.drop_top.new.self)
    (steps_in c.drop_top.new.self) c.in-Some.ensures.1 (omega (arith, c.guard.ensures))
    (c.drop_top.ensures.frames (frame_in c.in-Some.frame) c.in-Some.ensures.0
    (c.emit_at.ensures.frames ∙ c.in-Some.ensures.1))
    (c.drop_top.ensures.steps ∙ c.in_ok-emit_at.ensures.steps
    ∙ ap (λ x. steps_in c.args.self.now ++ (x ∷ [])) c.closing.ensures)
    ∙ ap (λ m. settled c.args.reach m (frames_in c.drop_top.new.self)
    (steps_in c.drop_top.new.self)) (sym c.whole.ensures)
