use Rattle.std.proofs.Common.{Some, ap, sym, subst, ◌∙◌}
use Rattle.vortex_syntax.specs.declared.writing.Writer.{Writer}
use Rattle.vortex_syntax.specs.Writing.{Holds}
use Rattle.vortex_expressions.specs.WritingSteps.{task_in}
use Rattle.vortex_expressions.proofs.Walked.{going_first, going_on, less_left, no_text, all_text}
use Rattle.vortex_expressions.proofs.Answered.{stepped, stopped}
use Rattle.vortex_expressions.proofs.writing.write_expression.Goals as goal

pub loop-task-init : goal.loop-task-init
loop-task-init c =
    going_first c.args.tree.now c.new-writing.result c.put.new.self c.new-writing.ensures.tasks
    c.new-writing.ensures.writer c.in_ok-put.ensures.tasks c.in_ok-put.ensures.writer

pub returns-then-not-branch : goal.returns-then-not-branch
returns-then-not-branch c =
    let p = task_in c.in-Some.task in
    no_text c.args.tree.now c.loop-task.writing c.next.new.self p c.loop-task.invariant
    c.in-Some.ensures.tasks
    (stopped c.next.new.self c.step.new.self p c.in_ok-step.field-0 c.if-not-branch.true
    c.in_ok-step.ensures)

pub loop-task-smaller : goal.loop-task-smaller
loop-task-smaller c =
    let p = task_in c.in-Some.task in
    less_left c.loop-task.writing c.next.new.self c.step.new.self p c.in-Some.ensures.tasks
    (stepped c.next.new.self c.step.new.self p c.in_ok-step.field-0 c.if-not-branch.false
    c.in_ok-step.ensures)

pub loop-task-preserved : goal.loop-task-preserved
loop-task-preserved c =
    let p = task_in c.in-Some.task in
    going_on c.args.tree.now c.loop-task.writing c.next.new.self c.step.new.self p
    c.loop-task.invariant c.in-Some.ensures.tasks c.in-Some.ensures.writer
    (stepped c.next.new.self c.step.new.self p c.in_ok-step.field-0 c.if-not-branch.false
    c.in_ok-step.ensures)

pub returns : goal.returns
returns c =
    let g = c.loop-task.invariant in
    ap (λ bs. Some bs)
    (c.into_text.ensures g.tokens
    (subst (λ (w : Writer). Holds g.tokens w) (sym c.in_default.ensures.writer) g.held))
    ∙ all_text c.args.tree.now c.loop-task.writing g c.in_default.ensures.tasks
