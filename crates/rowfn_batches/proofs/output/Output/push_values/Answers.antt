use Rattle.std.proofs.Common.{sym, subst, ◌∙◌}
use Rattle.rowfn_csv.specs.declared.format.Format.{Format}
use Rattle.rowfn_batches.specs.Truths.{AreTruths}
use Rattle.rowfn_batches.proofs.Outputs.{next_value}
use Rattle.rowfn_batches.proofs.output.Output.push_values.Goals as goal

pub loop-k-preserved : goal.loop-k-preserved
loop-k-preserved c =
    next_value c.args.self.now c.loop-k.self c.begin_field.new.self c.push_value.new.self
    c.args.answers.now c.args.place c.loop-k.k c.index-answers-k.result c.loop-k-test.true
    c.index-answers-k.is c.loop-k.invariant c.in_ok-begin_field.ensures
    c.in_ok-push_value.ensures

pub push_value-requires-clause-truths : goal.push_value-requires-clause-truths
push_value-requires-clause-truths c =
    subst (λ (f : Format). AreTruths f c.args.truths)
    (sym (c.in_ok-begin_field.ensures.1 ∙ c.loop-k.invariant.0)) c.requires.truths
