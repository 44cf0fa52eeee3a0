use Rattle.std.proofs.Common.{subst, sym}
use Rattle.std.specs.Cow.{cow_value}
use Rattle.vortex_errors.proofs.Answering.{UnlessMemory-weaker}
use Rattle.vortex_columns.specs.ColumnView.{ColumnView}
use Rattle.vortex_interface.specs.Eval.{HasTreeRows, IsFirstFault}
use Rattle.vortex_interface.specs.Execution.{Executes, RefusesExecution}
use Rattle.vortex_interface.specs.Execution.{faulty}
use Rattle.vortex_standard.specs.Standard.{standard_meaning}
use Rattle.vortex_program.proofs.Answered.{answers_refusal, owned_is}
use Rattle.vortex_program.proofs.deciding.execute_deciding.Goals as goal

pub returns-in_err-column : goal.returns-in_err-column
returns-in_err-column c =
    let m = standard_meaning in
    let cs = c.args.columns.now in
    let n = c.args.row_count in
    let t = c.args.tree.now in
    let fit = c.requires in
    answers_refusal (Executes m cs n t) (RefusesExecution m cs n t)
    c.from_residual.result c.in_err-column.field-0.0
    c.from_residual.ensures.1
    (UnlessMemory-weaker (IsFirstFault m cs n t) (RefusesExecution m cs n t)
    (λ e q. faulty fit.0 fit.1 q) c.in_err-column.field-0.0 c.in_err-column.ensures)

pub returns : goal.returns
returns c =
    let fit = c.requires in
    let m = standard_meaning in
    let cs = c.args.columns.now in
    let n = c.args.row_count in
    let owned = c.in_ok-into_owned.field-0 in
    let same = owned_is owned (cow_value c.in_ok-column.column) c.in_ok-into_owned.ensures.ok in
    record {
      fit = fit.0;
      lengths = fit.1;
      rows = subst (λ (d : ColumnView). HasTreeRows m cs n c.args.tree.now d) (sym same)
          c.in_ok-column.ensures;
    }
