-- Expressions: their leaves are places in a scope, and each constant has its type.
use Rattle.std.specs.Prelude.{⊤}
use Rattle.vortex_types.specs.Typing.{HasType}
use Rattle.vortex_interface.specs.Trees.{Leaf, place, held, Tree, leaf, constant, call, Trees}
use Rattle.vortex_interface.specs.Trees.{no_trees, tree}

-- a place in a scope
abbrev pub IsPlace : Leaf → Type 0
IsPlace (place p name t) = ⊤
IsPlace (held c) = ⊥

-- the tree holds no column
abbrev mutual
  pub OnlyPlaces : {V O : Type 0} → Tree V O → Type 0
  OnlyPlaces (leaf l) = IsPlace l
  OnlyPlaces (constant s) = ⊤
  OnlyPlaces (call f ts) = AllOnlyPlaces ts

  -- nor do several trees
  pub AllOnlyPlaces : {V O : Type 0} → Trees V O → Type 0
  AllOnlyPlaces no_trees = ⊤
  AllOnlyPlaces (tree t ts) = OnlyPlaces t × AllOnlyPlaces ts

-- and each constant has its type
abbrev mutual
  pub IsBound : {V O : Type 0} → Tree V O → Type 0
  IsBound (leaf l) = IsPlace l
  IsBound (constant s) = HasType s.dtype s.value
  IsBound (call f ts) = AllBound ts

  -- the same for several trees
  pub AllBound : {V O : Type 0} → Trees V O → Type 0
  AllBound no_trees = ⊤
  AllBound (tree t ts) = IsBound t × AllBound ts
