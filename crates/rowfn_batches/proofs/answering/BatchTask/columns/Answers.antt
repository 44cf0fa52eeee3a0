use Rattle.rowfn_batches.proofs.FirstRows.{are_first}
use Rattle.rowfn_batches.proofs.answering.BatchTask.columns.Goals as goal

pub returns-in-Ok : goal.returns-in-Ok
returns-in-Ok c =
    are_first c.args.self.now.asked c.args.fields.now c.args.row_count c.len.result
    c.len.ensures c.first_rows-fields.result.now c.first_rows-fields.ensures
    c.in-Ok.columns.items c.as_slice-kinds.result.now c.as_slice-kinds.ensures.value c.in-Ok.ensures
