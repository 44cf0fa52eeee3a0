-- Trees as constructors make them: each held column has its rows, and each constant its type.
use Rattle.std.specs.Prelude.{ℕ, ◌<◌, ⊤}
use Rattle.vortex_types.specs.Typing.{HasType}
use Rattle.vortex_interface.specs.Trees.{Leaf, place, held, Tree, leaf, constant, call, Trees}
use Rattle.vortex_interface.specs.Trees.{no_trees, tree}
use Rattle.vortex_interface.specs.Rewrites.{HasTypedRow}
pub use Rattle.vortex_interface.specs.Bound.{IsPlace, IsBound, AllBound}

-- a held column has n rows of its type, and its form is right about them
abbrev pub IsMadeLeaf : ℕ → Leaf → Type 0
IsMadeLeaf n (place p name t) = ⊤
IsMadeLeaf n (held c) = (i : ℕ) → i < n → HasTypedRow c i

-- and each constant has its type, as in everything that constructors make
abbrev mutual
  pub IsMade : {V O : Type 0} → ℕ → Tree V O → Type 0
  IsMade n (leaf l) = IsMadeLeaf n l
  IsMade n (constant s) = HasType s.dtype s.value
  IsMade n (call f ts) = AllMade n ts

  -- so are several trees
  pub AllMade : {V O : Type 0} → ℕ → Trees V O → Type 0
  AllMade n no_trees = ⊤
  AllMade n (tree t ts) = IsMade n t × AllMade n ts
