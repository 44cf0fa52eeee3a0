use Rattle.std.proofs.Common.{◌≤◌, ◌+◌, ◌∙◌, sym, subst, length, map, take, arith}
use Rattle.vortex_syntax.specs.Tokens.{token_in}
use Rattle.vortex_syntax.proofs.AnswerCommas.{Passes, deeper_by, passes_more, first_at, none_at}
use Rattle.vortex_syntax.proofs.answer_list.first_comma.Goals as goal

pub returns-then-ends_answer-clause-parts : goal.returns-then-ends_answer-clause-parts
returns-then-ends_answer-clause-parts c =
    first_at token_in c.args.tokens.now c.loop-i.i c.loop-i.depth _ c.loop-i-test.true
    c.loop-i.invariant.1 (sym c.ends_answer.ensures ∙ c.if-ends_answer.true)

pub loop-i-preserved : goal.loop-i-preserved
loop-i-preserved c =
    let step = c.depth_behind-depth.ensures (omega (arith, c.loop-i.invariant.0)) in (
      omega (arith, c.loop-i.invariant.0, deeper_by c.loop-i.depth _ _ step),
      subst (λ n. Passes 0 n (map token_in (take (c.loop-i.i + 1) c.args.tokens.now))) (sym step)
          (passes_more token_in c.args.tokens.now c.loop-i.i c.loop-i.depth _ c.loop-i-test.true
          c.loop-i.invariant.1 (sym c.ends_answer.ensures ∙ c.if-ends_answer.false)),
    )

pub returns-clause-parts : goal.returns-clause-parts
returns-clause-parts c =
    none_at token_in c.args.tokens.now c.loop-i.i c.loop-i.depth
    (let k : length c.args.tokens.now ≤ c.loop-i.i = omega arith in k) c.loop-i.invariant.1
