use Rattle.std.proofs.Common.{map, add-one}
use Rattle.vortex_errors.proofs.Answering.{UnlessMemory-weaker}
use Rattle.vortex_interface.specs.Execution.{Executes, RefusesExecution}
use Rattle.vortex_functions.specs.Walks.{AllMean}
use Rattle.vortex_program.specs.Executing.{RefusesFirst}
use Rattle.vortex_program.proofs.Answered.{all_more, answers_refusal, refuses_at}
use Rattle.vortex_program.proofs.Faulty.{fit_at}
use Rattle.vortex_standard.specs.Standard.{standard_meaning}
use Rattle.vortex_program.proofs.executing.execute_all.Goals as goal

pub execute_checking-requires : goal.execute_checking-requires
execute_checking-requires c = λ known.
    fit_at c.args.columns.now c.args.row_count c.args.answers.now c.loop-answer.answer-index
    c.answer-item.result c.loop-answer-test.true c.answer-item.is (c.requires known)

pub returns-in_err-column : goal.returns-in_err-column
returns-in_err-column c =
    let m = standard_meaning in
    let cs = c.args.columns.now in
    let n = c.args.row_count in
    let answers = c.args.answers.now in
    let answer = c.answer-item.result in
    let trees = map (λ a. a.tree) answers in
    let refuses = RefusesFirst m cs n trees in
    answers_refusal (λ ds. AllMean (Executes m cs n) trees ds.items) refuses
    c.from_residual.result c.in_err-column.field-0.0 c.from_residual.ensures.1
    (UnlessMemory-weaker (RefusesExecution m cs n answer.tree) refuses
    (λ e h.
    refuses_at m cs n (λ a. a.tree) answers c.loop-answer.executed.items
    c.loop-answer.answer-index answer e c.loop-answer-test.true c.answer-item.is
    c.loop-answer.invariant h)
    c.in_err-column.field-0.0 c.in_err-column.ensures)

pub loop-answer-preserved : goal.loop-answer-preserved
loop-answer-preserved c =
    let m = standard_meaning in
    let cs = c.args.columns.now in
    let n = c.args.row_count in
    let k = c.loop-answer.answer-index in
    let answers = c.args.answers.now in
    let answer = c.answer-item.result in
    rw c.in_ok-push.ensures.items
    (all_more (Executes m cs n) (λ a. a.tree) answers c.loop-answer.executed.items k _ answer
    c.in_ok-column.column (add-one k) c.loop-answer-test.true c.answer-item.is
    c.loop-answer.invariant c.in_ok-column.ensures)
