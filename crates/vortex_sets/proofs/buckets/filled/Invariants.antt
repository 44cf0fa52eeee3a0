use Rattle.std.proofs.Common.{◌≡◌, ◌+◌, ◌*◌, length, map, true}
use Rattle.std.specs.List.{list_all}
use Rattle.vortex_sets.specs.ItemSets.{is_member}
use Rattle.vortex_sets.proofs.buckets.filled.Given as goal

-- each slot has an item
abbrev pub invariant-loop-item : goal.invariant-loop-item
invariant-loop-item g l =
    (length l.slots.items ≡ 4 * l.last + 4)
    × (list_all
    (λ y. is_member (map g.I.SetItem.value l.items) (g.I.SetItem.value y))
    l.slots.items
    ≡ true)
