use Rattle.std.proofs.Common.{◌≡◌, ◌*◌, pos, length, map, take, drop}
use Rattle.vortex_arrow.specs.Written.{places}
use Rattle.vortex_arrow.proofs.set_bits.write_set.Given as goal

-- the numbers so far, and what lies behind them
abbrev pub invariant-loop-k : goal.invariant-loop-k
invariant-loop-k g l = record {
  end : l.end ≡ length (places (g.W.BitWords.row_bit l.rows) (64 * l.k));
  numbers : map g.I.IndexType.number (take l.end l.numbers)
      ≡ map pos (places (g.W.BitWords.row_bit l.rows) (64 * l.k));
  behind : drop l.end l.numbers ≡ drop l.end l.initial.numbers;
}
