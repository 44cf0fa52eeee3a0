use Rattle.std.proofs.Common.{◌≡◌, map, take, true}
use Rattle.std.specs.List.{list_all}
use Rattle.vortex_sets.specs.ItemSets.{is_found}
use Rattle.vortex_sets.proofs.buckets.are_found.Given as goal

-- each so far
abbrev pub invariant-loop-item : goal.invariant-loop-item
invariant-loop-item g l =
    list_all
    (λ x. is_found g.I.SetItem.key l.last (map g.I.SetItem.value l.slots) (g.I.SetItem.value x))
    (take l.item-index l.items)
    ≡ true
