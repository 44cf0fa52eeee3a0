use Rattle.std.proofs.Common.{◌≡◌, map}
use Rattle.std.specs.Vec.{vec_capacity}
use Rattle.vortex_kernels.specs.Numeric.{row_results, AreResults, TellsFaults}
use Rattle.vortex_kernels.proofs.checked_loops.apply_rows.Given as goal

-- the results so far, the capacity for the rest, and the flag of the rows so far
abbrev pub invariant-loop-i : goal.invariant-loop-i
invariant-loop-i g l =
    (vec_capacity l.values ≡ l.len)
    × AreResults g.T.NativePType.ptype
    (row_results g.O.CheckedPrimitiveOp.exact (g.L.Numbers.number_at l.left)
    (g.R.Numbers.number_at l.right))
    l.i (map g.T.NativePType.number l.values.items)
    × TellsFaults g.T.NativePType.ptype
    (row_results g.O.CheckedPrimitiveOp.exact (g.L.Numbers.number_at l.left)
    (g.R.Numbers.number_at l.right))
    l.i (g.O.Fail.Failure.is_fault l.fault)
