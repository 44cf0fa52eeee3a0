-- Results of the calls that read words; the call's result is the last argument.
use Rattle.std.specs.Prelude.{◌≡◌, ◌<◌, ℕ, List, length, Option, None, Result, MatchOption}
use Rattle.std.specs.Borrow.{Bor}
use Rattle.vortex_errors.specs.declared.error.VortexError.{VortexError}
use Rattle.vortex_errors.specs.Answers.{AnswersUnlessMemory}
use Rattle.rowfn_lines.specs.declared.command.Line.{Line}
use Rattle.rowfn_lines.specs.declared.text.Word as read
use Rattle.rowfn_lines.specs.Lines.{Word, with_word, words_of, word_in}
use Rattle.rowfn_lines.specs.Commands.{Command, command_in}

-- a first word and what follows it, for a text with these words; none if it has none
abbrev pub SplitsWord : List ℕ → Option (List Word) → Option (read.Word × Bor (List ℕ)) → Type 0
SplitsWord text said result =
    MatchOption result (said ≡ None)
    (λ p. (said ≡ with_word (word_in p.0) (words_of p.1.now)) × (length p.1.now < length text))

-- the parsed line; or memory ran out
abbrev pub AnswersCommand : Command → Result Line VortexError → Type 0
AnswersCommand k result = AnswersUnlessMemory result (λ l. command_in l ≡ k)
