use Rattle.std.proofs.Common.{◌≡◌, map, take, drop}
use Rattle.vortex_arrow.specs.Floats.{narrow_pattern}
use Rattle.vortex_arrow.proofs.floats.make_narrow_patterns.Given as goal

-- the numbers so far are changed, and the others are as they were
abbrev pub invariant-loop-i : goal.invariant-loop-i
invariant-loop-i l = record {
  changed : take l.i l.values ≡ map narrow_pattern (take l.i l.initial.values);
  behind : drop l.i l.values ≡ drop l.i l.initial.values;
}
