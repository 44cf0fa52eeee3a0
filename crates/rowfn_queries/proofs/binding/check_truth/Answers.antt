use Rattle.std.proofs.Common.{add-one, rules, List, subst}
use Rattle.std.specs.Prelude.{All}
use Rattle.std.proofs.lemmas.List.{take_all}
use Rattle.vortex_expressions.specs.Items.{Tree}
use Rattle.vortex_program.specs.declared.answer.Answer.{Answer}
use Rattle.vortex_program.specs.declared.form.Form.{Form}
use Rattle.vortex_program.specs.declared.form.Form.TheVariants as form
use Rattle.vortex_program.specs.Programs.{trees_of}
use Rattle.rowfn_queries.specs.Queries.{IsTruth, IsTruthFor}
use Rattle.vortex_program.proofs.Answered.{placed_more}
use Rattle.rowfn_queries.proofs.binding.check_truth.Goals as goal

truth_for : (f : Form) (ts : List Tree) → All IsTruth ts → IsTruthFor f ts
truth_for form.Answers ts h = tt
truth_for form.Condition ts h = h

pub loop-answer-preserved : goal.loop-answer-preserved
loop-answer-preserved c =
    placed_more IsTruth (λ a. a.tree) c.args.answers.now c.loop-answer.answer-index _
    c.answer-item.result (add-one c.loop-answer.answer-index) c.loop-answer-test.true
    c.answer-item.is c.loop-answer.invariant c.in-Ok.ensures

pub returns : goal.returns
returns c =
    let all = take_all c.loop-answer.answer-index c.args.answers.now c.loop-answer-test.false in
    truth_for c.args.form (trees_of c.args.answers.now)
    (subst (λ (xs : List Answer). All IsTruth (trees_of xs)) all c.loop-answer.invariant)

pub returns-in-Err : goal.returns-in-Err
returns-in-Err c = record {
  answer = c.answer-item.result;
  of_condition = search rules;
  among = search rules;
  told = c.in-Err.ensures;
}
