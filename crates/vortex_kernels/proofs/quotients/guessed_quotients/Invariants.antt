use Rattle.std.proofs.Common.{◌≡◌, ◌*◌, ◌/◌, length, map}
use Rattle.std.specs.Vec.{vec_capacity}
use Rattle.vortex_checked.specs.Exact.{quotient}
use Rattle.vortex_kernels.specs.Faults.{AreToldResults, pair_results}
use Rattle.vortex_kernels.proofs.quotients.guessed_quotients.Given as goal

-- the results of the rows so far, and the capacity for the rest
abbrev pub invariant-loop-k : goal.invariant-loop-k
invariant-loop-k g l =
    (vec_capacity l.values ≡ l.len)
    × (l._k-end ≡ length l.lefts / 64)
    × AreToldResults g.T.NativePType.ptype
    (pair_results quotient (map g.T.NativePType.number l.lefts)
    (map g.T.NativePType.number l.rights))
    (64 * l._k) (map g.T.NativePType.number l.values.items) l.fault
