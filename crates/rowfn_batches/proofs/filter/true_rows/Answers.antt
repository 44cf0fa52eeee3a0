use Rattle.rowfn_batches.proofs.FilteredRows.{one_more}
use Rattle.rowfn_batches.proofs.filter.true_rows.Goals as goal

pub loop-row-preserved : goal.loop-row-preserved
loop-row-preserved c =
    one_more c.args.column.now c.loop-row.row c.loop-row.rows.items c.push_if.new.rows.items
    c.is_true.result c.loop-row.invariant c.is_true.ensures c.in_ok-push_if.ensures
