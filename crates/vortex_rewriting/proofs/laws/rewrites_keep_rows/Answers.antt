use Rattle.vortex_rewriting.proofs.KeptRows.{rewrites_keep_rows}
use Rattle.vortex_rewriting.proofs.laws.rewrites_keep_rows.Goals as goal

pub returns : goal.returns
returns g c =
    rewrites_keep_rows g.C.ScalarFnVTable.meaning c.args.columns.now c.args.row_count
    c.args.tree.now c.dtype-typed.ensures.typed c.types_invariant.ensures
