use Rattle.yurkije_core.proofs.MarkedPlaces.{place_next, all_placed}
use Rattle.yurkije_core.proofs.expression.marked_places.Goals as goal

pub loop-place-preserved : goal.loop-place-preserved
loop-place-preserved c =
    place_next c.args.marks.now c.loop-place.places.items c.loop-place.place _ c.loop-place-test.true
    c.loop-place.invariant c.push_marked.new.places.items c.in_ok-push_marked.ensures

pub returns : goal.returns
returns c =
    all_placed c.args.marks.now c.loop-place.places.items c.loop-place.place c.loop-place-test.false
    c.loop-place.invariant
