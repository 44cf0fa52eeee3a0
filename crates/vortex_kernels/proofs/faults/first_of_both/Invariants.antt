use Rattle.std.proofs.Common.{◌≡◌, ◌+◌, ◌*◌, ◌/◌, ℕ, false, length}
use Rattle.std.specs.Prelude.{slice_index_or}
use Rattle.vortex_kernels.specs.Faults.{IsOfBoth}
use Rattle.vortex_kernels.proofs.faults.first_of_both.Given as goal

-- no index so far is set in both
abbrev pub invariant-loop-k : goal.invariant-loop-k
invariant-loop-k l =
    (l.k-end ≡ length l.left / 64 + 1)
    × ((i : ℕ) → ¬ IsOfBoth (64 * l.k) (λ j. slice_index_or l.left j false)
    (λ j. slice_index_or l.right j false) i)
