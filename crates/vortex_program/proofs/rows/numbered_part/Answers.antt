use Rattle.std.proofs.Common.{length}
use Rattle.vortex_program.specs.Rows.{numbered}
use Rattle.vortex_program.proofs.TakenRows.{other_part_at}
use Rattle.vortex_program.proofs.rows.numbered_part.Goals as goal

pub returns : goal.returns
returns c =
    other_part_at (numbered c.args.numbers.now) (length c.args.numbers.now) c.args.read
    c.args.column.now c.null.result c.if-read.false c.null.ensures
