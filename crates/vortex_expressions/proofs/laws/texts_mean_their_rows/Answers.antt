use Rattle.vortex_expressions.proofs.TextRows.{texts}
use Rattle.vortex_expressions.proofs.laws.texts_mean_their_rows.Goals as goal

pub returns : goal.returns
returns c scope kinds =
    texts scope kinds c.comparisons_go_by_order.ensures c.bounds_go_by_order.ensures
    c.computations_are_exact.ensures c.intervals_move.ensures c.instants_elapse.ensures
    c.values_are_aligned.ensures c.kinds_meet.ensures c.spans_compute.ensures c.instants_move.ensures
