use Rattle.std.proofs.Common.{◌≡◌, ◌≤◌, ◌<◌, ℕ, true, length}
use Rattle.std.specs.Prelude.{slice_index_or}
use Rattle.std.specs.Vec.{vec_capacity}
use Rattle.vortex_like.specs.FirstBytes.{admits}
use Rattle.vortex_like.proofs.first_byte.first_bytes.Given as goal

-- the bytes so far, and the capacity for the rest
abbrev pub invariant-loop-b : goal.invariant-loop-b
invariant-loop-b l =
    (vec_capacity l.may ≡ 256) × (length l.may.items ≡ l.b)
    × ((k : ℕ) → k < l.b → k < 128
    → slice_index_or l.may.items k true ≡ admits l.case_insensitive l.tokens k)
    × ((k : ℕ) → k < l.b → 128 ≤ k → slice_index_or l.may.items k true ≡ true)
