use Rattle.vortex_logical_calls.proofs.RowMeanings.{comparisons}
use Rattle.vortex_logical_calls.proofs.laws.comparisons_go_by_order.Goals as goal

pub returns : goal.returns
returns c = comparisons c.stored_values_are_ordered.ensures c.rescaling_orders.ensures
