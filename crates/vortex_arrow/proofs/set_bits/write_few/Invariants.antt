use Rattle.std.proofs.Common.{◌≡◌, ◌≤◌, ◌<◌, ◌+◌, ◌-◌, ◌++◌, ℕ, pos, length, map, take, drop, w64}
use Rattle.std.specs.Int.{trailing_zeros}
use Rattle.vortex_bits.specs.Bits.{bit}
use Rattle.vortex_arrow.specs.Written.{places}
use Rattle.vortex_arrow.proofs.set_bits.write_few.Given as goal

-- the numbers of the bits below the lowest one that is left
abbrev pub invariant-loop-end : goal.invariant-loop-end
invariant-loop-end g l = record {
  same : (j : ℕ) → trailing_zeros w64 l.rest ≤ j → j < 64 → bit l.rest j ≡ bit l.fn.word j;
  end : l.end ≡ l.fn.from + length (places (bit l.fn.word) (trailing_zeros w64 l.rest));
  numbers : map g.I.IndexType.number (take l.end l.numbers)
      ≡ map g.I.IndexType.number (take l.fn.from l.initial.numbers)
      ++ map (λ j. pos (l.first + j)) (places (bit l.fn.word) (trailing_zeros w64 l.rest));
  behind : drop l.end l.numbers ≡ drop l.end l.initial.numbers;
}

abbrev pub decreases-loop-end : goal.decreases-loop-end
decreases-loop-end g l = l.last - l.end
