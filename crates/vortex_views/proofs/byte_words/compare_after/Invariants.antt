use Rattle.std.proofs.Common.{◌≡◌, ◌≤◌, ◌-◌, length, take}
use Rattle.vortex_views.proofs.byte_words.compare_after.Given as goal

abbrev pub invariant-loop-at : goal.invariant-loop-at
invariant-loop-at l = record {
  a_within : l.at ≤ length l.a;
  b_within : l.at ≤ length l.b;
  alike :
      take l.at l.a ≡ take l.at l.b;
}

abbrev pub decreases-loop-at : goal.decreases-loop-at
decreases-loop-at l = length l.a - l.at
