use Rattle.vortex_columns.specs.Cells.{sequence_values}
use Rattle.vortex_columns.specs.Shapes.{shape_type}
use Rattle.vortex_columns.proofs.HaveTypes.{not_made}
use Rattle.vortex_columns.proofs.typing.SequenceCheck.open.Goals as goal

pub returns-else-is_made_of : goal.returns-else-is_made_of
returns-else-is_made_of c =
    not_made (shape_type c.args.shape) (sequence_values c.args.values.now) c.len.result
    c.is_made_of.result c.len.ensures c.is_made_of.ensures c.if-is_made_of.false
