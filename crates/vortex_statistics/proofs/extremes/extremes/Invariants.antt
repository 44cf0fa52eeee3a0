use Rattle.vortex_statistics.specs.Extremes.{AreExtremes}
use Rattle.vortex_statistics.proofs.extremes.extremes.Given as goal

-- the extremes of the rows so far
abbrev pub invariant-loop-i : goal.invariant-loop-i
invariant-loop-i g l =
    AreExtremes l.len l.i (g.V.RowBits.row_bit l.valid) (g.R.RowOrder.row_value l.rows) l.low l.high
