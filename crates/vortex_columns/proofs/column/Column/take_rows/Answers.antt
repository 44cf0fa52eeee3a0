use Rattle.std.proofs.Common.{◌≡◌, arith, sym, ap, subst, ◌∙◌, ◌++◌}
use Rattle.std.specs.Option.{option_to_list}
use Rattle.vortex_columns.specs.TakenFrames.{Taking, taking, Fits, filled, IsSound, step_taking}
use Rattle.vortex_columns.specs.TakenFrames.{rows_in, frame_weight, step_weight}
use Rattle.vortex_columns.specs.Frames.{Make, frames_weight}
use Rattle.vortex_columns.proofs.Frames.{frame_put, frame_taken, frames_pushed}
use Rattle.vortex_columns.proofs.column.Column.take_rows.Goals.{In-Some}
use Rattle.vortex_columns.proofs.column.Column.take_rows.Goals as goal

alike : (t u : Taking) → t.column ≡ u.column → t.rows ≡ u.rows → t ≡ u
alike t u columns rows i = record { column = columns i; rows = rows i }

-- rows of a whole column
abbrev here : In-Some → Taking
here c = record { column = c.in-Whole.column; rows = rows_in c.in-Whole.rows }

-- they fit the last of the frames
popped : (c : In-Some)
    → Fits c.in-Some.frame (here c)
    × Make Fits filled c.pop.new.self.items (filled c.in-Some.frame (here c))
    (taking (rows_in c.args.rows) c.args.self.now)
popped c =
    frame_taken Fits filled c.loop-step.frames.items c.pop.new.self.items c.in-Some.frame (here c)
    _ _ (ap step_taking c.in-Whole.is)
    (c.pop.ensures.items ∙ ap (λ r. c.pop.new.self.items ++ option_to_list r) c.in-Some.is)
    c.loop-step.invariant.1

pub fill-requires : goal.fill-requires
fill-requires c = (popped c).0

pub loop-step-smaller-in_ok-step-in-Part : goal.loop-step-smaller-in_ok-step-in-Part
loop-step-smaller-in_ok-step-in-Part c =
    omega (
      arith,
      ap (frames_weight frame_weight) c.in_ok-push-in-Part.ensures.items,
      frames_pushed frame_weight c.loop-step.frames.items c.in-Part.frame,
      ap step_weight c.in-Part.is,
      c.in_ok-step-in-Part.ensures.falls,
    )

pub loop-step-preserved-in_ok-step-in-Part : goal.loop-step-preserved-in_ok-step-in-Part
loop-step-preserved-in_ok-step-in-Part c =
    let here = taking (rows_in c.in-Part.rows) c.in-Part.inside.now in (
      c.in_ok-step-in-Part.ensures.sound,
      subst
          (λ (t : Taking). Make Fits filled c.push.new.self.items t
          (taking (rows_in c.args.rows) c.args.self.now))
          (sym
          (alike (step_taking c.in_ok-step-in-Part.step) here
          c.in_ok-step-in-Part.ensures.column c.in_ok-step-in-Part.ensures.rows))
          (frame_put Fits filled c.loop-step.frames.items c.push.new.self.items c.in-Part.frame
          here _ _ (ap step_taking c.in-Part.is) c.in_ok-push-in-Part.ensures.items
          (subst IsSound c.in-Part.is c.loop-step.invariant.0).0 c.loop-step.invariant.1),
    )

pub loop-step-smaller : goal.loop-step-smaller
loop-step-smaller c =
    omega (
      arith,
      ap (frames_weight frame_weight)
          (c.pop.ensures.items ∙ ap (λ r. c.pop.new.self.items ++ option_to_list r) c.in-Some.is),
      frames_pushed frame_weight c.pop.new.self.items c.in-Some.frame,
      ap step_weight c.in-Whole.is,
      c.in_ok-step-in-Some.ensures.falls,
    )

pub loop-step-preserved : goal.loop-step-preserved
loop-step-preserved c =
    let some = (goal.at.loop-step-preserved c).In-Some in (
      c.in_ok-step-in-Some.ensures.sound,
      subst
          (λ (t : Taking). Make Fits filled c.pop.new.self.items t
          (taking (rows_in c.args.rows) c.args.self.now))
          (sym
          (alike (step_taking c.in_ok-step-in-Some.step) (filled c.in-Some.frame (here some))
          c.in_ok-step-in-Some.ensures.column c.in_ok-step-in-Some.ensures.rows))
          (popped some).1,
    )
