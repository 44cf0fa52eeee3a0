use Rattle.std.proofs.Common.{◌∙◌, ap, map}
use Rattle.vortex_sets.specs.ItemSets.{is_found}
use Rattle.vortex_sets.proofs.SetLemmas.{found_is_member}
use Rattle.vortex_sets.proofs.item_set.ItemSet.contains.Goals as goal

pub returns : goal.returns
returns g c =
    let set = c.args.self.now in
    let value = g.I.SetItem.value in
    let key = g.I.SetItem.key in
    c.is_found.ensures
    ∙ ap (λ slots. is_found key set.buckets.last (map value slots) (value c.args.value))
    c.deref.ensures.value
    ∙ found_is_member value key set.items.items set.buckets.slots.items set.buckets.last
    set.buckets.room set.sound set.complete (value c.args.value)
