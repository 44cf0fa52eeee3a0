use Rattle.std.proofs.Common.{◌≡◌, ◌<◌, ℕ, length, pos, get_or}
use Rattle.std.specs.Float.{float_zero}
use Rattle.vortex_float_bits.specs.FloatBits.{float_of}
use Rattle.yurkije_lent.proofs.float_words.floats_of.Given as goal

-- the floats so far are in their places
abbrev pub invariant-loop-j : goal.invariant-loop-j
invariant-loop-j l = record {
  count : length l.floats ≡ 64;
  each : (k : ℕ) → k < l.j
      → get_or l.floats k float_zero ≡ float_of (get_or l.patterns k (pos 0));
}
