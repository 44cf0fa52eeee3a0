use Rattle.std.proofs.Common.{◌≡◌, length, map, take}
use Rattle.std.specs.Vec.{vec_capacity}
use Rattle.vortex_arrow.specs.Floats.{narrow_key}
use Rattle.vortex_arrow.proofs.floats.narrow_keys.Given as goal

-- the keys so far, and the capacity for the rest
abbrev pub invariant-loop-i : goal.invariant-loop-i
invariant-loop-i l = record {
  capacity : vec_capacity l.keys ≡ length l.patterns;
  keys : l.keys.items ≡ map narrow_key (take l.i l.patterns);
}
