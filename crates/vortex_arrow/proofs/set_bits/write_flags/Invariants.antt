use Rattle.std.proofs.Common.{◌≡◌, ◌<◌, ◌*◌, ℕ, drop}
use Rattle.std.specs.Prelude.{slice_index}
use Rattle.vortex_arrow.specs.Written.{flag}
use Rattle.vortex_arrow.proofs.set_bits.write_flags.Given as goal

-- the bytes so far, and what lies behind them
abbrev pub invariant-loop-k : goal.invariant-loop-k
invariant-loop-k g l = record {
  flags : (i : ℕ) → i < 64 * l.k → slice_index l.out i ≡ flag (g.W.BitWords.row_bit l.rows i);
  behind : drop (64 * l.k) l.out ≡ drop (64 * l.k) l.initial.out;
}
