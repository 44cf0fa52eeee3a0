use Rattle.std.proofs.Common.{rules}
use Rattle.std.specs.Prelude.{◌↔◌, IsTrue}
use Rattle.std.specs.Str.{chars}
use Rattle.vortex_like.specs.Tokens.{Match}
use Rattle.vortex_like.proofs.Testing.{answer_is}
use Rattle.vortex_like.proofs.token_test.TokenTest.passes_counted.Goals as goal

pub returns-clause-test : goal.returns-clause-test
returns-clause-test c =
    let fold = c.args.self.now.case_insensitive in
    let tokens = c.args.self.now.tokens.items in
    let text = chars c.args.haystack.now in
    let told : IsTrue c.match_tokens.result.0 ↔ Match fold tokens text = search rules in
    answer_is fold c.match_tokens.result.0 tokens text told
