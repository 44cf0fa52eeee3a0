use Rattle.std.proofs.Common.{◌≡◌, map, drop}
use Rattle.vortex_ranges.specs.BoundViews.{range_of}
use Rattle.vortex_sql_ranges.specs.Choices.{coalesced_from, nothing}
use Rattle.vortex_sql_ranges.proofs.choices.coalesce_range.Given as goal

-- the inputs so far may each be null
abbrev pub invariant-loop-input : goal.invariant-loop-input
invariant-loop-input l =
    coalesced_from (range_of l.found) (map range_of (drop l.input-index l.inputs))
    ≡ coalesced_from nothing (map range_of l.inputs)
