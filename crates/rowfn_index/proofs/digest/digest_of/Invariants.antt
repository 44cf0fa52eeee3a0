use Rattle.std.proofs.Common.{◌≡◌, take, ℕ}
use Rattle.rowfn_index.specs.Digests.{digest}
use Rattle.rowfn_index.proofs.digest.digest_of.Given as goal

abbrev pub invariant-loop-byte : goal.invariant-loop-byte
invariant-loop-byte l = l.digest ≡ digest (take l.byte-index l.bytes)
