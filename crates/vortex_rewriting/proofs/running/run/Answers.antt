use Rattle.std.proofs.lemmas.Result.{err_from_is_err_and}
use Rattle.vortex_errors.proofs.Answering.{UnlessMemory-weaker}
use Rattle.vortex_interface.specs.Execution.{RefusesColumns}
use Rattle.vortex_interface.specs.Running.{RefusesAfter, misfit}
use Rattle.vortex_functions.specs.Words.{type_of}
use Rattle.vortex_rewriting.specs.Runs.{expression_step}
use Rattle.vortex_rewriting.proofs.RunAnswers.{runs_to, run_answers}
use Rattle.vortex_rewriting.proofs.running.run.Goals as goal

pub returns-in_err-check_columns : goal.returns-in_err-check_columns
returns-in_err-check_columns g c =
    let m = g.C.ScalarFnVTable.meaning in
    let cs = c.args.columns.now in
    let n = c.args.row_count in
    let rule = expression_step m g.C.ScalarFnVTable.rules in
    let p =
    err_from_is_err_and c.from_residual.result c.from_residual.ensures.1 in
    rw (p.1, p.2)
    (UnlessMemory-weaker (RefusesColumns cs n c.args.tree.now)
    (RefusesAfter m cs n rule c.args.limit c.args.tree.now) (λ e h. misfit h) _
    c.in_err-check_columns.ensures.answer)

pub returns : goal.returns
returns g c =
    let m = g.C.ScalarFnVTable.meaning in
    let r = g.C.ScalarFnVTable.rules in
    let o = c.in_ok-optimized.optimized in
    let ended = runs_to (expression_step m r) c.args.limit o.steps c.args.tree.now o.tree o.done
    c.in_ok-optimized.ensures.run c.in_ok-optimized.ensures.limited c.in_ok-optimized.ensures.done
    c.in_ok-optimized.ensures.stopped in
    run_answers m g.met.C.ScalarFnVTable.lawful r g.met.C.ScalarFnRules.rules_lawful c.args.limit
    c.args.columns.now c.args.row_count c.args.tree.now o.tree (type_of c.dtype-typed.result.now)
    c.execute.result c.dtype-typed.ensures.dtype c.dtype-typed.ensures.typed
    c.in_ok-check_columns.ensures.answer c.in_ok-check_columns.ensures.typed ended
    c.execute.ensures.answer c.execute.ensures.borrowed
