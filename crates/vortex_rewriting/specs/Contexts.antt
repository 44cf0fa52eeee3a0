-- Trees in their context: a row count, or none.
use Rattle.std.specs.Prelude.{◌≡◌, Option}
use Rattle.std.specs.Option.{option_map}
use Rattle.vortex_interface.specs.Trees.{Tree}

pub record InContext (V O B : Type 0) : Type 0 where
  pub tree : Tree V O
  pub context : B

-- for anything with a tree and a context
abbrev pub in_context : {A V O B : Type 0} → (A → Tree V O) → (A → B) → A → InContext V O B
in_context tree_of context_of a = record { tree = tree_of a; context = context_of a }

-- for each of two
abbrev pub of_two : {A B : Type 0} → (A → B) → A × A → B × B
of_two f p = (f p.0, f p.1)

-- the tree of a node
abbrev pub tree_by : {N V O B : Type 0} → (N → InContext V O B) → N → Tree V O
tree_by seen node = (seen node).tree

module _ {V O B : Type 0} (s : InContext V O B) where
  -- another tree in the same context
  abbrev pub with_tree : Tree V O → InContext V O B
  with_tree t = record { tree = t; context = s.context }

  -- the new node represents that tree, in the same context; there is none if there is no tree
  abbrev pub IsMade : {N : Type 0} → (N → InContext V O B) → Option (Tree V O) → Option N → Type 0
  IsMade seen tree made = option_map seen made ≡ option_map with_tree tree
