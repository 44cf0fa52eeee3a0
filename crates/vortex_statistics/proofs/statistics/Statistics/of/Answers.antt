use Rattle.std.proofs.Common.{sym, subst}
use Rattle.vortex_statistics.specs.StatisticsView.{AreConsistent}
use Rattle.vortex_statistics.proofs.MeasuredRows.{measured_consistent}
use Rattle.vortex_statistics.proofs.statistics.Statistics.of.Goals as goal

pub invariant_of-result : goal.invariant_of-result
invariant_of-result c =
    subst AreConsistent (sym c.in_ok-parts.ensures)
    (measured_consistent c.args.column.now _ _ c.dtype-typed.ensures.typed c.in_ok-low.ensures)
