use Rattle.std.proofs.Common.{◌≤◌, map, take}
use Rattle.vortex_syntax.specs.Tokens.{token_in}
use Rattle.vortex_syntax.proofs.AnswerCommas.{Passes}
use Rattle.vortex_syntax.proofs.answer_list.first_comma.Given as goal

abbrev pub invariant-loop-i : goal.invariant-loop-i
invariant-loop-i l = (l.depth ≤ l.i) × Passes 0 l.depth (map token_in (take l.i l.tokens))
