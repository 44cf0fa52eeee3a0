use Rattle.yurkije_pruning.proofs.FloatEnds.{low_ends_hold}
use Rattle.yurkije_pruning.proofs.laws.low_ends_hold_of_nan.Goals as goal

pub returns : goal.returns
returns c = low_ends_hold c.keys_are_ordered.ensures
