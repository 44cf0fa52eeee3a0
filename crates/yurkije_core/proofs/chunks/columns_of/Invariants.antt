use Rattle.std.proofs.Common.{◌≡◌, ◌++◌, length}
use Rattle.yurkije_core.proofs.chunks.columns_of.Given as goal

-- the columns so far, and those that are still to be made
abbrev pub invariant-columns : goal.invariant-columns
invariant-columns l = l.columns.items ++ l.rest.items ≡ l.fn.joined.items

abbrev pub decreases-columns : goal.decreases-columns
decreases-columns l = length l.rest.items
