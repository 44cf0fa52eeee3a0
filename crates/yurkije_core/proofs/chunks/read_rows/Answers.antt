use Rattle.std.proofs.Common.{Option, subst, sym}
use Rattle.vortex_arrow.specs.declared.column.ArrowColumn.{ArrowColumn}
use Rattle.vortex_program.specs.Rows.{HasRows}
use Rattle.yurkije_columns.specs.Batches.{batch_column}
use Rattle.yurkije_core.proofs.ChunkRows.{nulls_have}
use Rattle.yurkije_core.proofs.chunks.read_rows.Goals as goal

pub returns-in-None : goal.returns-in-None
returns-in-None c = λ n.
    subst
    (λ (o : Option ArrowColumn).
    HasRows c.args.first c.args.count (batch_column n o) c.null.result)
    (sym c.in-None.is) (nulls_have c.args.first c.args.count n c.null.result c.null.ensures)
