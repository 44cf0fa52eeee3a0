use Rattle.std.proofs.Common.{◌≡◌, map}
use Rattle.std.specs.List.{range_with_len}
use Rattle.rowfn_index.specs.Steps.{action_at, expanded}
use Rattle.rowfn_index.proofs.steps.chunk_steps.Given as goal

abbrev pub invariant-loop-number : goal.invariant-loop-number
invariant-loop-number l =
    expanded l.made.items ≡ map (action_at l.copies l.pruned l.chunks) (range_with_len 0 l.number)
