use Rattle.std.proofs.Common.{◌∙◌, ◌∷◌, ◌-◌, ap, drop, length, sym, take}
use Rattle.vortex_sql_date_formats.specs.Formats.{items_of}
use Rattle.vortex_sql_date_formats.proofs.ItemLemmas.{literal_items, no_items, word_items}
use Rattle.vortex_sql_date_formats.proofs.formats.plain_item.Goals as goal

pub returns-in-Some-clause-items : goal.returns-in-Some-clause-items
returns-in-Some-clause-items c =
    word_items c.args.format.now c.in-Some.item c.in-Some.width c.requires (sym c.in-Some.ensures.value)
    c.in-Some.ensures.bound.0 c.in-Some.ensures.bound.1

pub returns-in-empty-clause-items : goal.returns-in-empty-clause-items
returns-in-empty-clause-items c = no_items c.args.format.now c.in-empty.len_below

pub returns-in-len1-up-clause-items : goal.returns-in-len1-up-clause-items
returns-in-len1-up-clause-items c =
    literal_items c.args.format.now c.requires (sym c.in-None.ensures.value) c.in-len1-up.len_at_least
    ∙ ap (λ i. i ∷ items_of (take (length c.args.format.now - 1) (drop 1 c.args.format.now)))
    (sym c.literal.ensures)
