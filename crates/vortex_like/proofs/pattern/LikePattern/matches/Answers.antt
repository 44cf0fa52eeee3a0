use Rattle.std.proofs.Common.{◌≡◌, rules}
use Rattle.std.specs.Str.{chars}
use Rattle.vortex_like.specs.Tokens.{is_match}
use Rattle.vortex_like.proofs.Testing.{test_answers}
use Rattle.vortex_like.proofs.pattern.LikePattern.matches.Goals as goal

pub returns-clause-answer : goal.returns-clause-answer
returns-clause-answer c =
    let fold = c.args.self.now.case_insensitive in
    let tokens = c.args.self.now.tokens in
    let text = chars c.args.haystack.now in
    let told : c.passes.result ≡ is_match fold tokens text = search rules in
    test_answers fold c.passes.result tokens text told
