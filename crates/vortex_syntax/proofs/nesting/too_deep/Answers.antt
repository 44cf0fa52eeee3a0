use Rattle.std.proofs.Common.{◌≡◌, ap, ◌∙◌, rules}
use Rattle.vortex_syntax.specs.declared.token.Sign.TheVariants as sign
use Rattle.vortex_syntax.specs.Tokens.{sign, token_in}
use Rattle.vortex_syntax.specs.Nesting.{opens}
use Rattle.vortex_syntax.proofs.Deep.{too_deep_at}
use Rattle.vortex_syntax.proofs.nesting.too_deep.Goals as goal

pub returns-then-depth-eq-DEPTH-clause-first : goal.returns-then-depth-eq-DEPTH-clause-first
returns-then-depth-eq-DEPTH-clause-first c =
    let is : c.in-Sign-Open.field-0 ≡ sign.Open = search rules in
    too_deep_at token_in c.args.tokens.now c.loop-i.i _ c.loop-i.depth c.loop-i-test.true
    c.loop-i.invariant.1 (ap (λ t. opens (token_in t)) c.in-Sign-Open.is ∙ ap (λ s. opens (sign s)) is)
    c.if-depth-eq-DEPTH.true

pub returns-then-depth-eq-DEPTH-2-clause-first : goal.returns-then-depth-eq-DEPTH-2-clause-first
returns-then-depth-eq-DEPTH-2-clause-first c =
    too_deep_at token_in c.args.tokens.now c.loop-i.i _ c.loop-i.depth c.loop-i-test.true
    c.loop-i.invariant.1 (ap (λ t. opens (token_in t)) c.in-Function.is)
    c.if-depth-eq-DEPTH-2.true
