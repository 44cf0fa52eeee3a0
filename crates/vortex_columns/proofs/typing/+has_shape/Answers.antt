use Rattle.std.proofs.Common.{◌≡◌, ◌<◌, ◌≤◌, ◌++◌, subst, arith, Bool, option_to_list}
use Rattle.std.proofs.lemmas.List.Elements.{All-nil}
use Rattle.vortex_types.specs.Values.{value_depth}
use Rattle.vortex_columns.specs.Cells.{sequence_value}
use Rattle.vortex_columns.specs.Shapes.{shape_type}
use Rattle.vortex_columns.specs.Questions.{asked_count, frames_in, LiesBehind, with_rest}
use Rattle.vortex_columns.proofs.AskedFrames.{IsWithin, further, begun, went_in, went_out}
use Rattle.vortex_columns.proofs.AskedFrames.{within_more, within_less, within_opened, deeper}
use Rattle.vortex_columns.proofs.AskedFrames.{less_in}
use Rattle.vortex_columns.proofs.typing.+has_shape.Goals as goal

pub loop-here-init : goal.loop-here-init
loop-here-init t c =
    let s = c.args.root.now in
    let depth = value_depth (sequence_value s) in
    let whole = shape_type c.args.shape in
    record {
      meaning = begun c.in-Some.here s whole c.in-Some.ensures;
      within = within_opened depth c.in-Some.here s whole c.in-Some.ensures (omega arith);
      above_within = All-nil (IsWithin depth);
    }

pub loop-here-smaller-then-lay_by : goal.loop-here-smaller-then-lay_by
loop-here-smaller-then-lay_by t c =
    let f = c.loop-here.here in
    let fs = frames_in c.loop-here.above in
    let gs = frames_in c.lay_by.new.above in
    let less : f.next < asked_count f = omega arith in
    let laid : gs ≡ fs ++ option_to_list (with_rest (further f)) =
    subst (λ (lies : Bool). LiesBehind lies (further f) fs gs) c.if-lay_by.true
    c.lay_by.ensures in
    less_in f c.in-Some-open.opened c.in-Sequence.inner (shape_type c.next_shape-wanted.result)
    fs gs less c.in-Sequence.ensures.value laid c.in-Some-open.ensures

pub loop-here-preserved-then-lay_by : goal.loop-here-preserved-then-lay_by
loop-here-preserved-then-lay_by t c =
    let f = c.loop-here.here in
    let fs = frames_in c.loop-here.above in
    let gs = frames_in c.lay_by.new.above in
    let inner = c.in-Sequence.inner in
    let wanted = shape_type c.next_shape-wanted.result in
    let depth = value_depth (sequence_value c.args.root.now) in
    let less : f.next < asked_count f = omega arith in
    let laid : gs ≡ fs ++ option_to_list (with_rest (further f)) =
    subst (λ (lies : Bool). LiesBehind lies (further f) fs gs) c.if-lay_by.true
    c.lay_by.ensures in
    let within = c.loop-here.invariant.within in
    let bound : value_depth (sequence_value f.values) ≤ depth = within.1 in
    let falls = deeper f (sequence_value inner) less c.in-Sequence.ensures.value in
    record {
      meaning =
          went_in f c.in-Some-open.opened inner wanted fs gs _ less laid c.in-Some-open.ensures
          c.next_shape-wanted.ensures c.in-Sequence.ensures.value c.loop-here.invariant.meaning;
      within =
          within_opened depth c.in-Some-open.opened inner wanted c.in-Some-open.ensures
          (omega (arith, falls, bound));
      above_within =
          within_more depth (further f) fs gs laid within c.loop-here.invariant.above_within;
    }

pub has_shape-requires : goal.has_shape-requires
has_shape-requires t c =
    let f = c.loop-here.here in
    let less : f.next < asked_count f = omega arith in
    let falls = deeper f (sequence_value c.in-Sequence.inner) less c.in-Sequence.ensures.value in
    (omega (arith, falls, c.loop-here.invariant.within.1, c.decreases), c.in-Sequence.ensures.whole)

pub loop-here-preserved : goal.loop-here-preserved
loop-here-preserved t c =
    let f = c.loop-here.here in
    let fs = frames_in c.loop-here.above in
    let gs = frames_in c.take_last.new.above in
    let outer = c.in-Some-take_last.outer in
    let depth = value_depth (sequence_value c.args.root.now) in
    let none : asked_count f ≤ f.next = omega arith in
    let all = c.loop-here.invariant.above_within in
    let there = within_less depth outer fs gs c.in-Some-take_last.ensures all in
    record {
      meaning =
          went_out f outer fs gs _ none c.in-Some-take_last.ensures
          c.loop-here.invariant.meaning;
      within = there.0;
      above_within = there.1;
    }
