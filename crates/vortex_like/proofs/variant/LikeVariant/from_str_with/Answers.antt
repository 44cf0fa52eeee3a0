use Rattle.std.specs.Str.{chars}
use Rattle.vortex_errors.proofs.Answering.{AnswersUnlessMemory-weaker}
use Rattle.vortex_like.specs.Variants.{IsVariantOf, TellsMatches}
use Rattle.vortex_like.proofs.Shapes.{tells_matches}
use Rattle.vortex_like.proofs.variant.LikeVariant.from_str_with.Goals as goal

pub returns-clause-matches : goal.returns-clause-matches
returns-clause-matches c =
    let pattern = chars c.args.pattern.now in
    AnswersUnlessMemory-weaker c.variant_of.result (IsVariantOf c.args.escape pattern)
    (TellsMatches c.args.escape pattern)
    (tells_matches c.args.escape pattern) c.variant_of.ensures
