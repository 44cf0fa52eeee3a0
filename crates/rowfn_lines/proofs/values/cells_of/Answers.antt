use Rattle.std.proofs.Common.{◌∙◌, ◌∷◌, [], map, sym, ap, option_map}
use Rattle.std.proofs.lemmas.List.{map-append}
use Rattle.vortex_types.specs.TypeOf.{type_of}
use Rattle.rowfn_lines.specs.Lines.{word_in}
use Rattle.rowfn_lines.specs.Commands.{cell_of}
use Rattle.vortex_cells.specs.Cells.{cell_in}
use Rattle.vortex_cells.proofs.AllSome.{next_some, some_missing}
use Rattle.rowfn_lines.proofs.values.cells_of.Goals as goal

pub returns-in_default : goal.returns-in_default
returns-in_default c =
    sym
    (some_missing (cell_of (type_of c.args.dtype.now)) word_in c.args.words.now
    c.loop-word.word-index _ c.loop-word-test.true
    (sym c.cell_of.ensures ∙ ap (option_map cell_in) c.in_default.is))

pub loop-word-preserved : goal.loop-word-preserved
loop-word-preserved c =
    let cell = c.in-Some.cell in
    rw c.in_ok-push.ensures.items
    (rw (map-append cell_in c.loop-word.cells.items (cell ∷ []))
    (next_some (cell_of (type_of c.args.dtype.now)) word_in c.args.words.now
    c.loop-word.word-index _ (map cell_in c.loop-word.cells.items) (cell_in cell)
    c.loop-word-test.true c.loop-word.invariant
    (sym c.cell_of.ensures ∙ ap (option_map cell_in) c.in-Some.is)))
