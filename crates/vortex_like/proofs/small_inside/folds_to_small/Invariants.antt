use Rattle.std.proofs.Common.{◌≡◌, ◌<◌, ℕ}
use Rattle.std.specs.Char.{to_ascii_lowercase}
use Rattle.unicode.specs.CaseFolding.{simple_fold}
use Rattle.vortex_like.proofs.small_inside.folds_to_small.Given as goal

-- the characters so far
abbrev pub invariant-loop-c : goal.invariant-loop-c
invariant-loop-c l = (k : ℕ) → k < l.c-counter → simple_fold k ≡ to_ascii_lowercase k
