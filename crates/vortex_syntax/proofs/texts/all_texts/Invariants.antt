use Rattle.std.proofs.Common.{◌≡◌, ◌≤◌, ◌-◌, ◌++◌, length, map, drop}
use Rattle.vortex_syntax.specs.Tokens.{token_in}
use Rattle.vortex_syntax.specs.AnswerTexts.{answer_texts}
use Rattle.vortex_syntax.proofs.texts.all_texts.Given as goal

abbrev pub invariant-loop-count : goal.invariant-loop-count
invariant-loop-count l =
    (l.from ≤ length l.tokens)
    × (answer_texts (map token_in l.tokens) ≡ map (λ text. text.items) l.texts.items
    ++ answer_texts (map token_in (drop l.from l.tokens)))

abbrev pub decreases-loop-count : goal.decreases-loop-count
decreases-loop-count l = length l.tokens - l.from
