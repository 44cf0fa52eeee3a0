use Rattle.std.proofs.Common.{◌≡◌, ◌<◌, ℕ}
use Rattle.std.specs.Prelude.{slice_index, ◌%◌}
use Rattle.unicode.specs.CaseFolding.{simple_fold}
use Rattle.vortex_like.proofs.folded_tests.fold_to.Given as goal

-- the bytes so far fold to the characters at the same index
abbrev pub invariant-loop-i : goal.invariant-loop-i
invariant-loop-i l =
    (k : ℕ) → k < l.i → simple_fold (slice_index l.bytes k % 128) ≡ slice_index l.own k
