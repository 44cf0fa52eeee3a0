use Rattle.std.proofs.Common.{◌≡◌, take}
use Rattle.rowfn_batches.specs.Layouts.{width_by}
use Rattle.rowfn_batches.proofs.header.width_by.Given as goal

-- the width by the places so far
abbrev pub invariant-loop-place : goal.invariant-loop-place
invariant-loop-place l = l.width ≡ width_by (take l.place-index l.places) l.found
