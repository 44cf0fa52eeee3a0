use Rattle.std.proofs.Common.{◌∙◌, ◌∷◌, ◌-◌, ap, drop, length, sym, take, true}
use Rattle.vortex_sql_date_formats.specs.Formats.{items_from}
use Rattle.vortex_sql_date_formats.proofs.ItemLemmas.{quoted_items, unended}
use Rattle.vortex_sql_date_formats.proofs.formats.next_item.Goals as goal

pub returns-in-empty-clause-items : goal.returns-in-empty-clause-items
returns-in-empty-clause-items c =
    let rest = c.after_quotes-within.result.1.now in
    sym c.after_quotes-within.ensures.items
    ∙ ap (λ q. items_from q rest) c.if-not-within.false
    ∙ unended rest c.in-empty.len_below

pub returns-in-len1-up-clause-items : goal.returns-in-len1-up-clause-items
returns-in-len1-up-clause-items c =
    let rest = c.after_quotes-within.result.1.now in
    sym c.after_quotes-within.ensures.items
    ∙ ap (λ q. items_from q rest) c.if-not-within.false
    ∙ quoted_items rest c.after_quotes-within.ensures.no_more c.in-len1-up.len_at_least
    ∙ ap (λ i. i ∷ items_from true (take (length rest - 1) (drop 1 rest))) (sym c.quoted.ensures)
