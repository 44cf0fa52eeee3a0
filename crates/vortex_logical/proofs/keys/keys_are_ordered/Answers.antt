use Rattle.vortex_logical.proofs.FloatKeyOrder as order
use Rattle.vortex_logical.proofs.keys.keys_are_ordered.Goals as goal

pub returns : goal.returns
returns c = order.keys_are_ordered
