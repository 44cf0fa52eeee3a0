use Rattle.std.proofs.Common.{◌≡◌, ◌≤◌, take, not}
use Rattle.std.specs.Prelude.{count_by}
use Rattle.vortex_statistics.proofs.kinds.count_unset.Given as goal

-- those of the bits so far
abbrev pub invariant-loop-i : goal.invariant-loop-i
invariant-loop-i l = record {
  most : l.count ≤ l.i;
  so_far : l.count ≡ count_by not (take l.i l.bits);
}
