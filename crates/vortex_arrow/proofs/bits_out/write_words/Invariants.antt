use Rattle.std.proofs.Common.{◌≡◌, ◌<◌, ◌*◌, ℕ, drop}
use Rattle.vortex_bits.specs.Bits.{bit_of}
use Rattle.vortex_arrow.proofs.bits_out.write_words.Given as goal

-- the words so far, and what lies behind them
abbrev pub invariant-loop-k : goal.invariant-loop-k
invariant-loop-k g l = record {
  bits : (i : ℕ) → i < 64 * l.k → bit_of l.out i ≡ g.W.BitWords.row_bit l.rows i;
  behind : drop (8 * l.k) l.out ≡ drop (8 * l.k) l.initial.out;
}
