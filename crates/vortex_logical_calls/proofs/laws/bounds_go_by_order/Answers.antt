use Rattle.vortex_logical_calls.proofs.RowMeanings.{all_bounds}
use Rattle.vortex_logical_calls.proofs.laws.bounds_go_by_order.Goals as goal

pub returns : goal.returns
returns c = all_bounds c.stored_values_are_ordered.ensures c.rescaling_orders.ensures
