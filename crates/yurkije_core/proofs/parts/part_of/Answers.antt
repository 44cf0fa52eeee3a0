use Rattle.std.proofs.Common.{Option, refl, subst, sym}
use Rattle.vortex_columns.specs.ColumnView.{null_column}
use Rattle.vortex_arrow.specs.declared.column.ArrowColumn.{ArrowColumn}
use Rattle.vortex_arrow.specs.Columns.{arrow_column}
use Rattle.vortex_program.specs.Rows.{HasRows}
use Rattle.yurkije_columns.specs.Batches.{batch_column}
use Rattle.yurkije_core.proofs.ChunkRows.{nulls_have}
use Rattle.yurkije_core.proofs.parts.part_of.Goals as goal

pub returns-in-Some : goal.returns-in-Some
returns-in-Some c = λ n.
    subst
    (λ (o : Option ArrowColumn).
    HasRows c.args.first c.args.count (batch_column n o) (arrow_column c.chunk_of.result))
    (sym c.in-Some.is) c.chunk_of.ensures

pub returns-in-None : goal.returns-in-None
returns-in-None c = λ n.
    subst
    (λ (o : Option ArrowColumn).
    HasRows c.args.first c.args.count (batch_column n o) (null_column c.args.count))
    (sym c.in-None.is) (nulls_have c.args.first c.args.count n (null_column c.args.count) refl)
