use Rattle.std.proofs.Common.{◌≡◌, map, drop}
use Rattle.vortex_ranges.specs.BoundViews.{range_of}
use Rattle.vortex_sql_ranges.specs.Listed.{unlisted, listed_from}
use Rattle.vortex_sql_ranges.proofs.listed.listed.Given as goal

-- all that is found is what is found so far and among the items from this one on
abbrev pub invariant-loop-item : goal.invariant-loop-item
invariant-loop-item l =
    let r = range_of l.value in
    listed_from (range_of l.found) r (map range_of (drop l.item-index l.items))
    ≡ listed_from (unlisted r) r (map range_of l.items)
