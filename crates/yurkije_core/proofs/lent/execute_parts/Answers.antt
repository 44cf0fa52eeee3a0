use Rattle.std.proofs.Common.{add-one, map, subst, sym}
use Rattle.vortex_interface.specs.Execution.{Executes}
use Rattle.vortex_expressions.specs.Items.{meaning}
use Rattle.vortex_program.proofs.Answered.{all_more}
use Rattle.yurkije_columns.specs.Batches.{batch_column}
use Rattle.yurkije_core.proofs.lent.execute_parts.Goals as goal

pub loop-answer-preserved : goal.loop-answer-preserved
loop-answer-preserved c =
    let cs = map (batch_column c.args.count) c.args.parts.now in
    let k = c.loop-answer.answer-index in
    let answer = c.answer-item.result in
    let column = c.in-Some-into_column.column in
    let executed : Executes meaning cs c.args.count answer.tree column =
    subst (Executes meaning cs c.args.count answer.tree)
    (sym c.in-Some-into_column.ensures)
    (record {
      fit = c.in-Some.ensures.0;
      lengths = c.requires;
      rows = c.in-Some.ensures.1;
    }) in
    rw c.in-Ok.ensures.items
    (all_more (Executes meaning cs c.args.count) (λ a. a.tree) c.args.answers.now
    c.loop-answer.columns.items k _ answer column (add-one k) c.loop-answer-test.true
    c.answer-item.is c.loop-answer.invariant executed)
