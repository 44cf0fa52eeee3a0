use Rattle.std.proofs.Common.{◌≡◌, ◌≤◌, ◌+◌, ◌-◌, length}
use Rattle.std.specs.Vec.{vec_capacity}
use Rattle.vortex_like.specs.Gathered.{IsHeldAt}
use Rattle.vortex_like.specs.Rows.{AreTold}
use Rattle.vortex_like.proofs.gathered.Search.pass_over.Given as goal

-- the texts so far, and the capacity for the rest
abbrev pub invariant-loop-held : goal.invariant-loop-held
invariant-loop-held l = record {
  room : vec_capacity l.held ≡ vec_capacity l.initial.held;
  low : length l.initial.held.items ≤ length l.held.items;
  high : length l.held.items + 1 ≤ length l.self.places.now;
  told : AreTold (length l.held.items)
      (IsHeldAt l.self.bytes.now l.self.test.now.finder l.self.places.now) l.held.items;
}

abbrev pub decreases-loop-held : goal.decreases-loop-held
decreases-loop-held l = length l.self.places.now - length l.held.items
