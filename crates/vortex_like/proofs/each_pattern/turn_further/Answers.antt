use Rattle.std.proofs.Common.{ℕ, ◌∙◌}
use Rattle.vortex_errors.proofs.Answering.{AnswersUnlessMemory-weaker}
use Rattle.vortex_like.specs.EachPattern.{IsCompiled}
use Rattle.vortex_like.proofs.KeptPatterns.{all_kept, kept_there}
use Rattle.vortex_like.proofs.each_pattern.turn_further.Goals as goal

pub returns-clause-patterns : goal.returns-clause-patterns
returns-clause-patterns c =
    AnswersUnlessMemory-weaker c.keep.result _ _
    (λ (at : ℕ) is.
    all_kept (IsCompiled c.args.options c.args.ascii) c.in_ok-pattern.pattern at
    c.args.kept.now.items c.keep.new.kept.items is c.requires.patterns
    c.in_ok-pattern.ensures.pattern)
    c.keep.ensures

pub returns-clause-place : goal.returns-clause-place
returns-clause-place c =
    AnswersUnlessMemory-weaker c.keep.result _ _
    (λ (at : ℕ) is.
    kept_there c.args.bytes.now c.in_ok-pattern.pattern at c.args.kept.now.items
    c.keep.new.kept.items is
    (c.in_ok-pattern.ensures.text ∙ c.from_utf8_unchecked-text.ensures))
    c.keep.ensures
