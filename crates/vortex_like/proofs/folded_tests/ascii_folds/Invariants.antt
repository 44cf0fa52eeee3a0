use Rattle.std.proofs.Common.{◌≡◌, ◌<◌, ℕ, length}
use Rattle.std.specs.Prelude.{slice_index}
use Rattle.std.specs.Vec.{vec_capacity}
use Rattle.unicode.specs.CaseFolding.{simple_fold}
use Rattle.vortex_like.proofs.folded_tests.ascii_folds.Given as goal

-- the characters so far, and the capacity for the rest
abbrev pub invariant-loop-c : goal.invariant-loop-c
invariant-loop-c l =
    (vec_capacity l.folds ≡ 128) × (length l.folds.items ≡ l.c)
    × ((k : ℕ) → k < l.c → slice_index l.folds.items k ≡ simple_fold k)
