-- Children with one of them replaced.
use Rattle.std.proofs.Common.{◌≡◌, ◌<◌, ℕ, zero, suc, List, [], ◌∷◌, Some, refl, ap, length, arith}
use Rattle.std.specs.Prelude.{slice_get, slice_set}
use Rattle.vortex_interface.specs.Meaning.{Meaning}
use Rattle.vortex_interface.specs.Trees.{Tree, trees_of}
use Rattle.vortex_interface.specs.Eval.{tree_type, tree_types, with_type}

module _ {V O : Type 0} where
  -- replacing a child by one of its type keeps the types
  pub other_types : (m : Meaning V O) (ts : List (Tree V O)) (k : ℕ) (u : Tree V O)
      → k < length ts → ((x : Tree V O) → slice_get ts k ≡ Some x → tree_type m u ≡ tree_type m x)
      → tree_types m (trees_of (slice_set ts k u)) ≡ tree_types m (trees_of ts)
  other_types m [] k u within same = absurd (omega (arith, within))
  other_types m (t ∷ ts) zero u within same =
      ap (λ a. with_type a (tree_types m (trees_of ts))) (same t refl)
  other_types m (t ∷ ts) (suc k) u within same =
      ap (with_type (tree_type m t)) (other_types m ts k u (omega (arith, within)) same)
