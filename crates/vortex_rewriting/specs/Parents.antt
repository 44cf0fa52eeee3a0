-- The path from a tree down to a place in it, as the parents with the number of the next child.
use Rattle.std.specs.Prelude.{◌≡◌, ℕ, List, [], ◌∷◌, Option, Some, None, slice_get}
use Rattle.std.specs.Option.{option_map}
use Rattle.vortex_interface.specs.Trees.{Tree, children_of}
use Rattle.vortex_interface.specs.Places.{with_child, rewritten}

module _ {V O : Type 0} where
  -- the parents lead from the first tree to the second
  abbrev pub IsPath : List (Tree V O × ℕ) → Tree V O → Tree V O → Type 0
  IsPath [] t x = t ≡ x
  IsPath (p ∷ ps) t x =
      (t ≡ p.0) × (y : Tree V O) × (slice_get (children_of p.0) p.1 ≡ Some y) × IsPath ps y x

  -- another tree at the end of the path
  abbrev pub with_parents : List (Tree V O × ℕ) → Tree V O → Tree V O
  with_parents [] u = u
  with_parents (p ∷ ps) u = with_child p.0 p.1 (with_parents ps u)

  -- a rewrite at a path of the first tree is one at the rest of the path, at the end of this one
  abbrev pub LeadsOn : List ℕ → Tree V O → List (Tree V O × ℕ) → List ℕ → Tree V O → Type 0
  LeadsOn path t ps rest x =
      (rule : Tree V O → Option (Tree V O))
      → rewritten rule path t ≡ option_map (option_map (with_parents ps)) (rewritten rule rest x)

  -- and none along it
  abbrev pub Leaves : List ℕ → Tree V O → Type 0
  Leaves path t = (rule : Tree V O → Option (Tree V O)) → rewritten rule path t ≡ None
