use Rattle.std.proofs.Common.{◌≡◌, map, take, Some}
use Rattle.vortex_types.specs.TypeOf.{type_of}
use Rattle.rowfn_lines.specs.Lines.{word_in}
use Rattle.rowfn_lines.specs.Commands.{cells_of}
use Rattle.vortex_cells.specs.Cells.{cell_in}
use Rattle.rowfn_lines.proofs.values.cells_of.Given as goal

-- the cells so far
abbrev pub invariant-loop-word : goal.invariant-loop-word
invariant-loop-word l =
    cells_of (type_of l.dtype) (map word_in (take l.word-index l.words))
    ≡ Some (map cell_in l.cells.items)
