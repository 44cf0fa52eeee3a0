use Rattle.vortex_pruning.proofs.GroupsReplaced.{ReplacedSoFar}
use Rattle.vortex_pruning.proofs.groups.replace_fields.Given as goal

-- the statistics of the fields so far are those in the group
abbrev pub invariant-loop-number : goal.invariant-loop-number
invariant-loop-number l = ReplacedSoFar l.group l.rows l.number l.fields l.statistics.items
