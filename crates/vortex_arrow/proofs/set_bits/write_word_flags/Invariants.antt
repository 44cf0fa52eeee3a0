use Rattle.std.proofs.Common.{◌≡◌, ◌<◌, ◌+◌, ℕ, take, drop}
use Rattle.std.specs.Prelude.{slice_index}
use Rattle.vortex_bits.specs.Bits.{bit}
use Rattle.vortex_arrow.specs.Written.{flag}
use Rattle.vortex_arrow.proofs.set_bits.write_word_flags.Given as goal

-- the bytes so far, and what lies before and behind them
abbrev pub invariant-loop-j : goal.invariant-loop-j
invariant-loop-j l = record {
  before : take l.fn.at l.out ≡ take l.fn.at l.initial.out;
  here : (i : ℕ) → i < l.j → slice_index l.out (l.fn.at + i) ≡ flag (bit l.fn.word i);
  behind : drop (l.fn.at + l.j) l.out ≡ drop (l.fn.at + l.j) l.initial.out;
}
