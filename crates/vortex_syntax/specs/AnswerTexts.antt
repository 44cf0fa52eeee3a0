-- The texts of answers, each without its name.
use Rattle.std.specs.Prelude.{ℕ, List, map}
use Rattle.vortex_syntax.specs.Tokens.{Token}
use Rattle.vortex_syntax.specs.Writing.{written}
use Rattle.vortex_syntax.specs.AnswerParts.{answer_parts}
use Rattle.vortex_syntax.specs.Refusals.{tree_tokens}

-- the text of an answer's tokens, but for `as` and a name
abbrev pub answer_text : List Token → List ℕ
answer_text ts = written (tree_tokens ts)

-- of each answer of a list
abbrev pub answer_texts : List Token → List (List ℕ)
answer_texts ts = map answer_text (answer_parts ts)
