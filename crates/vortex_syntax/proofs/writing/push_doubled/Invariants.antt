use Rattle.std.proofs.Common.{◌≡◌, ◌++◌, length, string_bytes}
use denote.Text.{Utf8}
use denote.Shadow.{shadow}
use Rattle.vortex_syntax.specs.Writing.{doubled}
use Rattle.vortex_syntax.proofs.writing.push_doubled.Given as goal

-- what is written, and what is left to write
abbrev pub invariant-loop-before : goal.invariant-loop-before
invariant-loop-before l =
    shadow (Utf8 l.rest)
    × (string_bytes l.out ++ doubled l.quote l.rest
    ≡ string_bytes l.initial.out ++ doubled l.quote l.text)

abbrev pub decreases-loop-before : goal.decreases-loop-before
decreases-loop-before l = length l.rest
