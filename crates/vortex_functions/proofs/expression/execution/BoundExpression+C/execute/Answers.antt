use Rattle.std.proofs.lemmas.Result.{err_from_is_err_and}
use Rattle.vortex_errors.proofs.Answering.{UnlessMemory-weaker}
use Rattle.vortex_interface.specs.Execution.{RefusesColumns, RefusesExecution, misfit}
use Rattle.vortex_functions.proofs.expression.execution.BoundExpression+C.execute.Goals as goal

-- columns that do not match
pub returns-in_err-check_columns-clause-answer : goal.returns-in_err-check_columns-clause-answer
returns-in_err-check_columns-clause-answer g c =
    let m = g.C.ScalarFnVTable.meaning in
    let cs = c.args.columns.now in
    let n = c.args.row_count in
    let t = c.args.self.now in
    let p =
    err_from_is_err_and c.from_residual.result c.from_residual.ensures.1 in
    rw (p.1, p.2)
    (UnlessMemory-weaker (RefusesColumns cs n t) (RefusesExecution m cs n t) (λ e q. misfit q) _
    c.in_err-check_columns.ensures.answer)
