use Rattle.std.proofs.Common.{map, take}
use Rattle.vortex_types.specs.TypeOf.{allows_null}
use Rattle.vortex_cells.specs.CellValues.{cell_values}
use Rattle.vortex_cells.specs.Cells.{cell_in, AreCells}
use Rattle.vortex_cells.proofs.cells.read_cells.Given as goal

-- the values of the cells so far
abbrev pub invariant-loop-cell : goal.invariant-loop-cell
invariant-loop-cell g l =
    let n = allows_null l.nullability in
    AreCells n (map g.K.CellKind.value l.items.items) l.valid.items
    (cell_values (g.K.CellTypes.kind n) (map cell_in (take l.cell-index l.cells)))
