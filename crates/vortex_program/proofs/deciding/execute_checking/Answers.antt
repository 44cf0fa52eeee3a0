use Rattle.vortex_errors.proofs.Answering.{UnlessMemory-weaker}
use Rattle.vortex_interface.specs.Execution.{Executes, RefusesColumns, RefusesExecution, misfit}
use Rattle.vortex_standard.specs.Standard.{standard_meaning}
use Rattle.vortex_program.proofs.Answered.{answers_refusal}
use Rattle.vortex_program.proofs.deciding.execute_checking.Goals as goal

pub returns-in_err-check_columns : goal.returns-in_err-check_columns
returns-in_err-check_columns c =
    let m = standard_meaning in
    let cs = c.args.columns.now in
    let n = c.args.row_count in
    let t = c.args.tree.now in
    answers_refusal (Executes m cs n t) (RefusesExecution m cs n t) c.from_residual.result
    c.in_err-check_columns.field-0.0 c.from_residual.ensures.1
    (UnlessMemory-weaker (RefusesColumns cs n t) (RefusesExecution m cs n t) (λ e q. misfit q)
    c.in_err-check_columns.field-0.0 c.in_err-check_columns.ensures.answer)
