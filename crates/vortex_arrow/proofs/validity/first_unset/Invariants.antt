use Rattle.std.proofs.Common.{◌≡◌, ◌<◌, ℕ, true, false}
use Rattle.std.specs.Prelude.{slice_index_or}
use Rattle.vortex_arrow.proofs.validity.first_unset.Given as goal

abbrev pub invariant-loop-i : goal.invariant-loop-i
invariant-loop-i l = (k : ℕ) → k < l.i → slice_index_or l.bits k false ≡ true
