use Rattle.vortex_syntax.specs.Tokens.{token_in}
use Rattle.vortex_syntax.proofs.AnswerTexts.{token_written, token_ended}
use Rattle.vortex_syntax.proofs.texts.write_tokens.Goals as goal

pub loop-token-preserved : goal.loop-token-preserved
loop-token-preserved c = (
  token_written token_in c.args.tokens.now c.loop-token.token-index _ c.loop-token.ending
      c.loop-token.out.items c.push_token.new.out.items c.loop-token-test.true
      c.loop-token.invariant.0 c.loop-token.invariant.1 c.in_ok-push_token.ensures,
  token_ended token_in c.args.tokens.now c.loop-token.token-index _ c.loop-token.ending
      c.ending_after-ending.result c.loop-token-test.true c.loop-token.invariant.1
      c.ending_after-ending.ensures,
)
