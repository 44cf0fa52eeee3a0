use Rattle.std.proofs.Common.{◌≡◌, map}
use Rattle.std.specs.Vec.{vec_capacity}
use Rattle.vortex_kernels.specs.Faults.{AreHeldResults}
use Rattle.vortex_kernels.specs.Numeric.{row_results}
use Rattle.vortex_kernels.proofs.checked_loops.unfaulted_rows.Given as goal

-- the results so far, of which no row faults, and the capacity for the rest
abbrev pub invariant-loop-i : goal.invariant-loop-i
invariant-loop-i g l =
    (vec_capacity l.values ≡ l.len)
    × AreHeldResults g.T.NativePType.ptype
    (row_results g.O.CheckedPrimitiveOp.exact (g.L.Numbers.number_at l.left)
    (g.R.Numbers.number_at l.right))
    l.i (map g.T.NativePType.number l.values.items)
