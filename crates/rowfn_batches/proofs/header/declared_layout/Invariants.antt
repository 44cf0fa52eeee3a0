use Rattle.std.proofs.Common.{◌≡◌, map}
use Rattle.std.specs.List.{range_with_len}
use Rattle.rowfn_batches.specs.Layouts.{declared_place}
use Rattle.rowfn_batches.proofs.header.declared_layout.Given as goal

-- the places so far
abbrev pub invariant-loop-i : goal.invariant-loop-i
invariant-loop-i l = l.places.items ≡ map (declared_place l.said) (range_with_len 0 l.i)
