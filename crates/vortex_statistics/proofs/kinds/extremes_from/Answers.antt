use Rattle.vortex_statistics.proofs.SameRows.{same_rows, constant_rows}
use Rattle.vortex_statistics.proofs.kinds.extremes_from.Goals as goal

pub returns-in-Some : goal.returns-in-Some
returns-in-Some g c =
    same_rows c.args.column.now.rows c.in-Some.field-0.now.value c.args.first
    (constant_rows c.args.column.now c.in-Some.field-0.now c.in-Some.ensures) c.requires.first
