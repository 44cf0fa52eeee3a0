use Rattle.std.proofs.Common.{◌≡◌, ◌≤◌, ◌<◌, ◌+◌, ◌++◌, ℕ, pos, length, map, take, drop, false, not}
use Rattle.vortex_bits.specs.Bits.{bit}
use Rattle.vortex_arrow.specs.Written.{places}
use Rattle.vortex_arrow.proofs.set_bits.write_many.Given as goal

-- the numbers of the bits before the place that is left off at, and the gaps from there on
abbrev pub invariant-loop-gaps : goal.invariant-loop-gaps
invariant-loop-gaps g l = record {
  within : l.at ≤ 64;
  same : (j : ℕ) → l.at ≤ j → j < 64 → bit l.gaps j ≡ not (bit l.fn.word j);
  passed : (j : ℕ) → j < l.at → bit l.gaps j ≡ false;
  end : l.end ≡ l.fn.from + length (places (bit l.fn.word) l.at);
  numbers : map g.I.IndexType.number (take l.end l.numbers)
      ≡ map g.I.IndexType.number (take l.fn.from l.initial.numbers)
      ++ map (λ j. pos (l.fn.first + j)) (places (bit l.fn.word) l.at);
  behind : drop l.end l.numbers ≡ drop l.end l.initial.numbers;
}

abbrev pub decreases-loop-gaps : goal.decreases-loop-gaps
decreases-loop-gaps g l = l.gaps
