use Rattle.std.proofs.Common.{◌≡◌, ◌≤◌, ◌+◌, ◌-◌, ◌++◌, pos, map, take, drop}
use Rattle.std.specs.List.{range_with_len}
use Rattle.vortex_arrow.proofs.set_bits.write_run.Given as goal

-- the numbers so far, and what lies behind them
abbrev pub invariant-loop-j : goal.invariant-loop-j
invariant-loop-j g l = record {
  after : l.fn.at ≤ l.j;
  end : l.end ≡ l.fn.from + (l.j - l.fn.at);
  numbers : map g.I.IndexType.number (take l.end l.numbers)
      ≡ map g.I.IndexType.number (take l.fn.from l.initial.numbers)
      ++ map (λ j. pos (l.fn.first + j)) (range_with_len l.fn.at (l.j - l.fn.at));
  behind : drop l.end l.numbers ≡ drop l.end l.initial.numbers;
}
