use Rattle.std.proofs.Common.{add-one}
use Rattle.vortex_errors.proofs.Answering.{UnlessMemory-weaker}
use Rattle.vortex_interface.specs.Bound.{IsBound}
use Rattle.vortex_interface.specs.Execution.{RefusesColumns}
use Rattle.vortex_standard.specs.Standard.{standard_meaning}
use Rattle.vortex_rewriting.specs.Keeping.{RewritesKeepRows}
use Rattle.vortex_program.specs.Executing.{RefusesColumnsFirst}
use Rattle.vortex_program.specs.Programs.{trees_of}
use Rattle.vortex_program.proofs.Answered.{answers_refusal, placed_more, fit_more}
use Rattle.vortex_program.proofs.Answered.{refuses_columns_at}
use Rattle.vortex_program.proofs.faults.check_answers.Goals as goal

pub returns-in_err-check_columns-clause-fit : goal.returns-in_err-check_columns-clause-fit
returns-in_err-check_columns-clause-fit c =
    let cs = c.args.columns.now in
    let n = c.args.row_count in
    let answers = c.args.answers.now in
    let answer = c.answer-item.result in
    let refuses = RefusesColumnsFirst cs n (trees_of answers) in
    answers_refusal _ refuses c.from_residual.result c.in_err-check_columns.field-0.0
    c.from_residual.ensures.1
    (UnlessMemory-weaker (RefusesColumns cs n answer.tree) refuses
    (λ e h.
    refuses_columns_at standard_meaning cs n (λ a. a.tree) answers c.loop-answer.answer-index answer e
    c.loop-answer-test.true c.answer-item.is c.loop-answer.invariant.1 h)
    c.in_err-check_columns.field-0.0 c.in_err-check_columns.ensures.answer)

pub loop-answer-preserved : goal.loop-answer-preserved
loop-answer-preserved c =
    let cs = c.args.columns.now in
    let n = c.args.row_count in
    let k = c.loop-answer.answer-index in
    let answers = c.args.answers.now in
    let answer = c.answer-item.result in (
      placed_more IsBound (λ a. a.tree) answers k _ answer (add-one k) c.loop-answer-test.true
          c.answer-item.is c.loop-answer.invariant.0 c.dtype-typed.ensures.typed,
      fit_more standard_meaning cs n (λ a. a.tree) answers k _ answer (add-one k)
          c.loop-answer-test.true c.answer-item.is c.loop-answer.invariant.1
          c.in_ok-check_columns.ensures.answer,
      placed_more (RewritesKeepRows standard_meaning cs n) (λ a. a.tree) answers k _ answer (add-one k)
          c.loop-answer-test.true c.answer-item.is c.loop-answer.invariant.2
          c.rewrites_keep_rows.ensures,
    )
