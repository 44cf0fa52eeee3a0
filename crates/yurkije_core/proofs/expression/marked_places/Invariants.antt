use Rattle.std.proofs.Common.{◌≡◌, ◌++◌}
use Rattle.yurkije_core.specs.Fields.{marked_places}
use Rattle.yurkije_core.proofs.MarkedPlaces.{places_from}
use Rattle.yurkije_core.proofs.expression.marked_places.Given as goal

-- the places so far, and those that are still to come
abbrev pub invariant-loop-place : goal.invariant-loop-place
invariant-loop-place l =
    l.places.items ++ places_from l.place l.marks ≡ marked_places 0 l.marks
