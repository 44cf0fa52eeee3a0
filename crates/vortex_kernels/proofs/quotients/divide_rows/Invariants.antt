use Rattle.std.proofs.Common.{◌≡◌, map}
use Rattle.std.specs.Vec.{vec_capacity}
use Rattle.vortex_checked.specs.Exact.{quotient}
use Rattle.vortex_kernels.specs.Faults.{AreToldResults, pair_results}
use Rattle.vortex_kernels.proofs.quotients.divide_rows.Given as goal

-- the results so far, their flag, and the capacity for the rest
abbrev pub invariant-loop-i : goal.invariant-loop-i
invariant-loop-i g l =
    (vec_capacity l.values ≡ vec_capacity l.fn.values)
    × AreToldResults g.T.NativePType.ptype
    (pair_results quotient (map g.T.NativePType.number l.lefts)
    (map g.T.NativePType.number l.rights))
    l.i (map g.T.NativePType.number l.values.items) l.fault
