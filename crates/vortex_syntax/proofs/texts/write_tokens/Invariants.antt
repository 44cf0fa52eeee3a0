use Rattle.std.proofs.Common.{◌≡◌, map, take}
use Rattle.vortex_syntax.specs.Tokens.{token_in}
use Rattle.vortex_syntax.specs.declared.writing.Ending.TheVariants as at
use Rattle.vortex_syntax.specs.Writing.{written, ending_of}
use Rattle.vortex_syntax.proofs.texts.write_tokens.Given as goal

abbrev pub invariant-loop-token : goal.invariant-loop-token
invariant-loop-token l =
    (l.out.items ≡ written (map token_in (take l.token-index l.tokens)))
    × (l.ending ≡ ending_of at.Tight (map token_in (take l.token-index l.tokens)))
