use Rattle.std.proofs.Common.{arith, sym, ap, subst, ◌∙◌, ◌++◌}
use Rattle.std.specs.Option.{option_to_list}
use Rattle.vortex_columns.specs.ColumnView.{ColumnView}
use Rattle.vortex_columns.specs.CopyFrames.{Fits, IsSound, step_view, step_weight, filled}
use Rattle.vortex_columns.specs.CopyFrames.{frame_weight}
use Rattle.vortex_columns.specs.Frames.{Make, frames_weight}
use Rattle.vortex_columns.proofs.Frames.{frame_put, frame_taken, frames_pushed}
use Rattle.vortex_columns.proofs.column.copies.copy_into.Goals.{In-Some}
use Rattle.vortex_columns.proofs.column.copies.copy_into.Goals as goal

-- a copy fits the last of the frames
popped : (c : In-Some)
    → Fits c.in-Some.frame c.in-Whole.copy
    × Make Fits filled c.pop.new.self.items (filled c.in-Some.frame c.in-Whole.copy)
    (filled c.args.frame c.args.inside.now)
popped c =
    frame_taken Fits filled c.loop-step.frames.items c.pop.new.self.items c.in-Some.frame
    c.in-Whole.copy _ _ (ap step_view c.in-Whole.is)
    (c.pop.ensures.items ∙ ap (λ r. c.pop.new.self.items ++ option_to_list r) c.in-Some.is)
    c.loop-step.invariant.1

pub fill-requires : goal.fill-requires
fill-requires c = (popped c).0

pub loop-step-smaller-in_ok-step-in-Part : goal.loop-step-smaller-in_ok-step-in-Part
loop-step-smaller-in_ok-step-in-Part c =
    omega (
      arith,
      ap (frames_weight frame_weight) c.in_ok-push-in-Part.ensures.items,
      frames_pushed frame_weight c.loop-step.frames.items c.in-Part.frame,
      ap step_weight c.in-Part.is,
      c.in_ok-step-in-Part.ensures.falls,
    )

pub loop-step-preserved-in_ok-step-in-Part : goal.loop-step-preserved-in_ok-step-in-Part
loop-step-preserved-in_ok-step-in-Part c = (
  c.in_ok-step-in-Part.ensures.sound,
  subst
      (λ (d : ColumnView). Make Fits filled c.push.new.self.items d
      (filled c.args.frame c.args.inside.now))
      (sym c.in_ok-step-in-Part.ensures.view)
      (frame_put Fits filled c.loop-step.frames.items c.push.new.self.items c.in-Part.frame
      c.in-Part.inside.now _ _ (ap step_view c.in-Part.is) c.in_ok-push-in-Part.ensures.items
      (subst IsSound c.in-Part.is c.loop-step.invariant.0) c.loop-step.invariant.1),
)

pub loop-step-smaller : goal.loop-step-smaller
loop-step-smaller c =
    omega (
      arith,
      ap (frames_weight frame_weight)
          (c.pop.ensures.items ∙ ap (λ r. c.pop.new.self.items ++ option_to_list r) c.in-Some.is),
      frames_pushed frame_weight c.pop.new.self.items c.in-Some.frame,
      ap step_weight c.in-Whole.is,
      c.in_ok-step-in-Some.ensures.falls,
    )

pub loop-step-preserved : goal.loop-step-preserved
loop-step-preserved c = (
  c.in_ok-step-in-Some.ensures.sound,
  subst
      (λ (d : ColumnView). Make Fits filled c.pop.new.self.items d
      (filled c.args.frame c.args.inside.now))
      (sym c.in_ok-step-in-Some.ensures.view) (popped (goal.at.loop-step-preserved c).In-Some).1,
)
