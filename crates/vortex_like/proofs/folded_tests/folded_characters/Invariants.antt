use Rattle.std.proofs.Common.{◌≡◌, ◌++◌, length}
use denote.Text.{Utf8}
use denote.Shadow.{shadow}
use Rattle.std.specs.Str.{chars}
use Rattle.vortex_like.specs.AsciiFolds.{folded}
use Rattle.vortex_like.proofs.folded_tests.folded_characters.Given as goal

-- the characters so far, and those of the rest
abbrev pub invariant-loop-c : goal.invariant-loop-c
invariant-loop-c l =
    shadow (Utf8 l.rest) × (l.own.items ++ folded (chars l.rest) ≡ folded (chars l.text))

abbrev pub decreases-loop-c : goal.decreases-loop-c
decreases-loop-c l = length (chars l.rest)
