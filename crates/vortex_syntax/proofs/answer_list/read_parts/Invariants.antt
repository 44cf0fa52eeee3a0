use Rattle.std.proofs.Common.{◌≡◌, ◌≤◌, ◌-◌, length, map, drop}
use Rattle.vortex_syntax.specs.Tokens.{token_in}
use Rattle.vortex_syntax.specs.AnswerLists.{answer_in}
use Rattle.vortex_syntax.specs.AnswerParts.{all_answers}
use Rattle.vortex_syntax.proofs.AnswerSplits.{after}
use Rattle.vortex_syntax.proofs.AnswerStops.{StopsWith}
use Rattle.vortex_syntax.proofs.answer_list.read_parts.Given as goal

abbrev pub invariant-loop-count : goal.invariant-loop-count
invariant-loop-count l =
    (l.from ≤ length l.tokens)
    × (all_answers (map token_in l.tokens) ≡ after (map answer_in l.answers.items)
    (all_answers (map token_in (drop l.from l.tokens))))
    × StopsWith (map token_in l.tokens) l.from (map token_in (drop l.from l.tokens))

abbrev pub decreases-loop-count : goal.decreases-loop-count
decreases-loop-count l = length l.tokens - l.from
