use Rattle.std.proofs.Common.{◌∙◌}
use Rattle.vortex_like.proofs.LiteralAnswers.{finds_inside}
use Rattle.vortex_like.proofs.text_tests.InsideTestTextTest.passes.Goals as goal

pub returns : goal.returns
returns c =
    c.is_some.ensures
    ∙ finds_inside c.args.self.now.finder c.args.haystack.now c.find.result c.find.ensures
