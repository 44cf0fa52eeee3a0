use Rattle.std.proofs.Common.{◌≡◌, List, subst, sym}
use Rattle.vortex_columns.specs.ColumnView.{ColumnView}
use Rattle.rowfn_batches.specs.Outputs.{HaveRows}
use Rattle.rowfn_batches.proofs.Within.{have_rows}
use Rattle.rowfn_batches.proofs.filter.Condition.sift.Goals as goal

pub rows_picked-requires : goal.rows_picked-requires
rows_picked-requires c =
    let a = c.in_ok-answers in
    let same : c.deref.result.now ≡ a.field-0.answers.items = cc c.deref.ensures.value in
    subst (λ (cs : List ColumnView). HaveRows a.field-0.row_count cs) (sym same)
    (have_rows c.args.self.now.asked c.args.self.now.batch.fields a.field-0.row_count
    a.field-0.answers.items a.ensures.rows)
