use Rattle.rowfn_batches.proofs.FilteredRows.{next_fields}
use Rattle.rowfn_batches.proofs.filter.fields_picked.Goals as goal

pub loop-row-preserved : goal.loop-row-preserved
loop-row-preserved c =
    next_fields c.args.fields.now c.loop-row.taken.items c.extend_from_slice.new.self.items
    c.row_fields.result.now c.args.width c.loop-row.row-index c.args.rows.now _
    c.loop-row-test.true c.loop-row.invariant c.row_fields.ensures
    c.in_ok-extend_from_slice.ensures.items
