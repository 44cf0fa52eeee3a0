use Rattle.std.proofs.Common.{◌≡◌, ◌++◌, map, option_map, length}
use denote.Text.{Utf8}
use denote.Shadow.{shadow}
use Rattle.rowfn_lines.specs.Lines.{after_spaces, words_of, word_in}
use Rattle.rowfn_lines.proofs.text.words.Given as goal

-- the rest comes after what was read, and does not begin with a space
abbrev pub invariant-loop-rest : goal.invariant-loop-rest
invariant-loop-rest l =
    shadow (Utf8 l.rest) × (after_spaces l.rest ≡ l.rest)
    × (option_map (λ ws. map word_in l.words.items ++ ws) (words_of l.rest) ≡ words_of l.line)

abbrev pub decreases-loop-rest : goal.decreases-loop-rest
decreases-loop-rest l = length l.rest
