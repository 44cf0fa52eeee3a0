use Rattle.std.proofs.Common.{◌≡◌, ◌<◌, ℕ, sym, ap, ◌∙◌, length}
use Rattle.vortex_columns.specs.Cells.{cell_value}
use Rattle.vortex_columns.specs.ColumnView.{ColumnView, row}
use Rattle.vortex_sql_in_list.specs.InLists.{item_value}
use Rattle.vortex_sql_in_list.proofs.ListedItems.{weaker_some, constant_row}
use Rattle.vortex_sql_in_list.proofs.items.item_of.Goals as goal

pub returns-in-Some : goal.returns-in-Some
returns-in-Some g c =
    let column = c.args.column.now in
    weaker_some c.of_cell.result
    (λ item. cell_value c.cell.result ≡ item_value g.I.SetItem.value item)
    (λ item. (i : ℕ) → i < length column.rows
    → row column.rows i ≡ item_value g.I.SetItem.value item)
    (λ item e i lt.
    ap (λ (x : ColumnView). row x.rows i) c.in-Some.ensures
    ∙ constant_row c.in-Some.scalar.now (length column.rows) i lt ∙ sym c.cell.ensures.value ∙ e)
    c.of_cell.ensures
