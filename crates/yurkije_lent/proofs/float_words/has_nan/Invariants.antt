use Rattle.std.proofs.Common.{◌≡◌, ◌<◌, ℕ, false, is_nan, pos, get_or}
use Rattle.vortex_float_bits.specs.FloatBits.{float_of}
use Rattle.yurkije_lent.proofs.float_words.has_nan.Given as goal

-- none so far is a NaN where the flag is not set
abbrev pub invariant-loop-j : goal.invariant-loop-j
invariant-loop-j l =
    l.has ≡ false → (k : ℕ) → k < l.j → is_nan (float_of (get_or l.patterns k (pos 0))) ≡ false
