use Rattle.std.proofs.Common.{sym, ap, ◌∙◌, option_map}
use Rattle.vortex_types.specs.TypeOf.{allows_null}
use Rattle.vortex_cells.specs.CellValues.{cell_value}
use Rattle.vortex_cells.specs.Cells.{cell_in, item_or_null}
use Rattle.vortex_cells.proofs.AllSome.{some_missing}
use Rattle.vortex_cells.proofs.CellRows.{cell_read}
use Rattle.vortex_cells.proofs.cells.read_cells.Goals as goal

pub returns-in_default : goal.returns-in_default
returns-in_default g c =
    some_missing (cell_value (g.K.CellTypes.kind (allows_null c.args.nullability))) cell_in
    c.args.cells.now c.loop-cell.cell-index _ c.loop-cell-test.true
    (sym c.read_cell.ensures ∙ ap (option_map (item_or_null g.K.CellKind.value)) c.in_default.is)

pub loop-cell-preserved : goal.loop-cell-preserved
loop-cell-preserved g c =
    let n = allows_null c.args.nullability in
    let value = g.K.CellKind.value in
    let said = sym c.read_cell.ensures ∙ ap (option_map (item_or_null value)) c.in-Some.is in
    rw (
      c.in_ok-push.ensures.items,
      c.is_some.ensures,
      c.in_ok-push-2.ensures.items,
      c.unwrap_or.ensures,
    )
    (cell_read (g.K.CellTypes.kind n) n value cell_in c.args.cells.now c.loop-cell.cell-index _
    c.loop-cell.items.items c.loop-cell.valid.items c.in-Some.item c.blank.result
    (g.K.CellTypes.nullable n) c.loop-cell-test.true c.loop-cell.invariant said c.blank.ensures)
