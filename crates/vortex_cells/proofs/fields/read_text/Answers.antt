use Rattle.std.proofs.Common.{◌∙◌}
use Rattle.vortex_cells.proofs.FieldRows.{token_text, none_said}
use Rattle.vortex_cells.proofs.fields.read_text.Goals as goal

pub returns-in-Some : goal.returns-in-Some
returns-in-Some g c = λ n.
    c.read.ensures n
    ∙ token_text (g.K.CellTypes.kind n) c.args.bytes.now c.in-Some.text.now c.in-Some.ensures.0
    c.in-Some.ensures.1

pub returns-in-None : goal.returns-in-None
returns-in-None g c = λ n. none_said (g.K.CellTypes.kind n) c.args.bytes.now c.in-None.ensures
