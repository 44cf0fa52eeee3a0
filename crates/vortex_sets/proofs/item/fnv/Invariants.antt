use Rattle.std.proofs.Common.{◌≡◌, take}
use Rattle.vortex_sets.specs.ItemSets.{fnv}
use Rattle.vortex_sets.proofs.item.fnv.Given as goal

-- the hash of the bytes so far
abbrev pub invariant-loop-byte : goal.invariant-loop-byte
invariant-loop-byte l = l.hash ≡ fnv (take l.byte-index l.bytes)
