use Rattle.std.proofs.Common.{Option, subst, sym}
use Rattle.vortex_columns.specs.ColumnView.{AreTyped}
use Rattle.vortex_arrow.specs.declared.column.ArrowColumn.{ArrowColumn}
use Rattle.yurkije_columns.specs.Batches.{batch_column}
use Rattle.yurkije_lent.proofs.LentRows.{nulls_typed}
use Rattle.yurkije_lent.proofs.types.learn_if_read.Goals as goal

pub returns-in-None : goal.returns-in-None
returns-in-None c = λ yes n.
    subst
    (λ (o : Option ArrowColumn). AreTyped (batch_column n o).dtype (batch_column n o).rows)
    (sym c.in-None.is) (nulls_typed n)
