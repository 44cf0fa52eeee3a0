use Rattle.vortex_program.proofs.TakenRows.{other_part}
use Rattle.vortex_program.proofs.rows.column_part.Goals as goal

pub returns : goal.returns
returns c =
    other_part c.args.first c.args.count c.args.read c.args.column.now c.null.result c.if-read.false
    c.null.ensures
