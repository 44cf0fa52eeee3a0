use Rattle.std.proofs.Common.{◌≡◌, length, map, take, slice_index_or}
use Rattle.std.specs.Vec.{vec_len, vec_capacity}
use Rattle.vortex_views.proofs.places.gather_at.Given as goal

-- the items so far, and the capacity for the rest
abbrev pub invariant-loop-place : goal.invariant-loop-place
invariant-loop-place g l =
    (vec_capacity l.taken ≡ length l.places) × (vec_len l.taken ≡ l.place-index)
    × ((d : _) → l.taken.items
    ≡ map (λ i. slice_index_or l.items i d) (map g.P.Place.number (take l.place-index l.places)))
