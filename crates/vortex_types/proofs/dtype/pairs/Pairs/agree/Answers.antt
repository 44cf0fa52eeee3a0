use Rattle.std.proofs.Common.{sym, ap, ◌∙◌, arith}
use Rattle.std.proofs.lemmas.List.Sums.{sum_by_push}
use Rattle.vortex_types.specs.TypePairs.{all_agree, waiting, weight_of}
use Rattle.vortex_types.proofs.PairSteps.{all_push}
use Rattle.vortex_types.proofs.dtype.pairs.Pairs.agree.Goals as goal

pub returns-then-not-step : goal.returns-then-not-step
returns-then-not-step c =
    c.if-not-step.ensures.agree
    ∙ sym (all_push c.args.exactly (waiting c.pop.new.self) c.in-Some.pair)
    ∙ sym (ap (all_agree c.args.exactly) c.in-Some.ensures)
    ∙ c.loop-pair.invariant

pub loop-pair-preserved : goal.loop-pair-preserved
loop-pair-preserved c =
    c.if-not-step.ensures.agree
    ∙ sym (all_push c.args.exactly (waiting c.pop.new.self) c.in-Some.pair)
    ∙ sym (ap (all_agree c.args.exactly) c.in-Some.ensures)
    ∙ c.loop-pair.invariant

pub loop-pair-smaller : goal.loop-pair-smaller
loop-pair-smaller c =
    omega (
      arith,
      c.step.ensures.fewer,
      ap weight_of c.in-Some.ensures ∙ sum_by_push _ (waiting c.pop.new.self) c.in-Some.pair,
    )
