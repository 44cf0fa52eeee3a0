use Rattle.std.proofs.Common.{◌≡◌, ◌*◌, map, take}
use Rattle.std.specs.Vec.{vec_len, vec_capacity}
use Rattle.vortex_columns.specs.Taken.{element_places}
use Rattle.vortex_columns.proofs.column.taken.elements_at.Given as goal

-- the elements of the lists so far, and the capacity for the rest
abbrev pub invariant-loop-place : goal.invariant-loop-place
invariant-loop-place g l =
    (vec_capacity l.elements ≡ l.count) × (vec_len l.elements ≡ l.size * l.place-index)
    × (l.elements.items ≡ element_places l.size
    (map g.P.Place.number (take l.place-index l.places)))
