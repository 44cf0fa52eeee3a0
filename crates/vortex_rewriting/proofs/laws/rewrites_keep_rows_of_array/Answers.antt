use Rattle.vortex_rewriting.proofs.KeptRows.{rewrites_keep_rows_of_array}
use Rattle.vortex_rewriting.proofs.laws.rewrites_keep_rows_of_array.Goals as goal

pub returns : goal.returns
returns g c =
    rewrites_keep_rows_of_array g.C.ScalarFnVTable.meaning c.args.array.now
    c.dtype-typed.ensures.typed
