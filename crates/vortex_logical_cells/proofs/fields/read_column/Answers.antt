use Rattle.std.proofs.lemmas.Result.{err_from_is_err_and}
use Rattle.vortex_logical_cells.proofs.fields.read_column.Goals as goal

pub returns-in_err-column_of_rows-in-Some : goal.returns-in_err-column_of_rows-in-Some
returns-in_err-column_of_rows-in-Some g c =
    let p = err_from_is_err_and c.from_residual-in_err-column_of_rows-in-Some.result
    c.from_residual-in_err-column_of_rows-in-Some.ensures.1 in
    rw (p.1, p.2)
    (c.in_err-column_of_rows-in-Some.ensures _ (rw c.in-Some.is at c.in_ok-rows.ensures))
