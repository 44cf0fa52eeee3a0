use Rattle.rowfn_index.proofs.RowsKept.{keeps_rows}
use Rattle.rowfn_index.proofs.laws.chunks_keep_their_rows.Goals as goal

pub returns : goal.returns
returns g c =
    keeps_rows g.C.ScalarFnVTable.meaning c.args.tree.now c.args.fields.now c.args.rows.now
    c.args.pruned.now c.args.chunks.now c.args.copies
