use Rattle.vortex_logical.proofs.StoredOrder as order
use Rattle.vortex_logical.proofs.laws.stored_values_are_ordered.Goals as goal

pub returns : goal.returns
returns c = order.stored_values_are_ordered
