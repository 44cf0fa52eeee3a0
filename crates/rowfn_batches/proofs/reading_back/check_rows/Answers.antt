use Rattle.std.proofs.Common.{arith, sym, ◌∙◌}
use Rattle.std.proofs.lemmas.Result.{err_from_is_err_and}
use Rattle.rowfn_batches.specs.ReadingBack.{is_lost, without_memory}
use Rattle.rowfn_batches.proofs.ReadingBack.{keeps_others, keeps_only, only_one}
use Rattle.rowfn_batches.proofs.reading_back.check_rows.Goals as goal

pub returns-then-answers-ne1 : goal.returns-then-answers-ne1
returns-then-answers-ne1 c =
    keeps_others c.args.format.now c.args.answers.now (λ e. omega (arith, e, c.if-answers-ne1.true))

pub returns-then-not-may_be_lost : goal.returns-then-not-may_be_lost
returns-then-not-may_be_lost c =
    let only = c.index-answers-0.result in
    keeps_only c.args.format.now c.args.answers.now only
    (only_one c.args.format.now c.args.answers.now only (omega (arith, c.if-answers-ne1.false))
    c.index-answers-0.is) (sym c.may_be_lost.ensures ∙ c.if-not-may_be_lost.true)

pub returns-in_err-lost : goal.returns-in_err-lost
returns-in_err-lost c =
    let p = err_from_is_err_and c.from_residual.result c.from_residual.ensures.1 in
    rw p.1 (without_memory p.2)

pub returns : goal.returns
returns c =
    let only = c.index-answers-0.result in
    is_lost only
    (only_one c.args.format.now c.args.answers.now only (omega (arith, c.if-answers-ne1.false))
    c.index-answers-0.is)
    (sym c.may_be_lost.ensures ∙ c.if-not-may_be_lost.false) c.in_ok-lost.ensures
