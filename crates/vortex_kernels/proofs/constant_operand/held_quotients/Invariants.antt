use Rattle.std.proofs.Common.{◌≡◌, map}
use Rattle.std.specs.Vec.{vec_capacity}
use Rattle.vortex_checked.specs.Exact.{quotient}
use Rattle.vortex_kernels.specs.Faults.{AreHeldResults}
use Rattle.vortex_kernels.specs.Numeric.{results_by}
use Rattle.vortex_kernels.proofs.constant_operand.held_quotients.Given as goal

-- the quotients so far, and the capacity for the rest
abbrev pub invariant-loop-i : goal.invariant-loop-i
invariant-loop-i g l =
    (vec_capacity l.values ≡ l.len)
    × AreHeldResults g.T.NativePType.ptype
    (results_by quotient (map g.T.NativePType.number l.numbers)
    (g.D.Divisor.value l.divisor))
    l.i (map g.T.NativePType.number l.values.items)
