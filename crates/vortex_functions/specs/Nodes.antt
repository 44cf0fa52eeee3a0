-- The view of a tree's node.
use Rattle.std.specs.Prelude.{◌≡◌, ◌+◌, ◌≤◌, List, [], ◌∷◌, map, IsTrue, Option, Some, None, All}
use Rattle.std.proofs.Common.{arith}
use denote.Param.Weighed.{most}
use Rattle.vortex_functions.specs.declared.tree.Parts.{Parts}
use Rattle.vortex_functions.specs.declared.tree.Node.{Node}
use Rattle.vortex_functions.specs.declared.tree.Node.TheVariants.{Leaf, Call}
use Rattle.vortex_functions.specs.declared.tree.Tree.TheInside.{Inside}
use Rattle.vortex_types.specs.TypeOf.{type_of}
use Rattle.vortex_interface.specs.Meaning.{Meaning}
use Rattle.vortex_types.specs.LogicalTypes.{null_type}
use Rattle.vortex_interface.specs.Trees.{place, Tree, leaf, call, trees_of, node_count}
use Rattle.vortex_interface.specs.Trees.{nodes_count}
use Rattle.vortex_interface.specs.Eval.{tree_type}
use Rattle.vortex_interface.specs.Driver.{step}
use Rattle.vortex_interface.specs.Weights.{weight_told}
use Rattle.vortex_functions.specs.FunctionOf.{function_of}

pub most_le-nodes_count : {V O S : Type 0} (tree_of : S → Tree V O) (xs : List S)
    → most (λ a. node_count (tree_of a) + 1) xs ≤ nodes_count (trees_of (map tree_of xs)) + 1
most_le-nodes_count tree_of [] = omega arith
most_le-nodes_count tree_of (a ∷ xs) = omega (arith, most_le-nodes_count tree_of xs)

module _ {V L O B S : Type 0} (tree_of : S → Tree V O) where
  -- the call with these parts
  abbrev pub call_of : Parts V L O B S → Tree V O
  call_of parts =
      call (function_of parts.function) (trees_of (map tree_of parts.children.items))

  abbrev pub node_tree : (L → Tree V O) → Node V L O B S → Tree V O
  node_tree seen (Leaf l) = seen l
  node_tree seen (Call parts) = call_of parts.value

  abbrev pub tree_view : (Tree V O → B → S) → (L → Tree V O) → Inside V L O B S → S
  tree_view see seen a = see (node_tree seen a.node) a.context

  -- a leaf may be present; a call is well typed, with its type, weight and context, its children
  -- have the same context, and if it is marked, the rule applies nowhere in it
  abbrev pub IsNode : (S → B) → Meaning V O → (Tree V O → Option (Tree V O)) → (B → L → Type 0)
      → B → Node V L O B S → Type 0
  IsNode context_of m rule fits b (Leaf l) = fits b l
  IsNode context_of m rule fits b (Call parts) =
      (tree_type m (call_of parts.value) ≡ Some (type_of parts.value.dtype))
      × All (λ child. context_of child ≡ b) parts.value.children.items
      × (parts.value.weight ≡ weight_told m (call_of parts.value))
      × (IsTrue parts.value.settled → step rule (call_of parts.value) ≡ None)

  abbrev pub IsTree : (S → B) → (Tree V O → B → S) → Meaning V O
      → (Tree V O → Option (Tree V O)) → (L → Tree V O) → (B → L → Type 0) → (S → Type 0)
      → Inside V L O B S → Type 0
  IsTree context_of see m rule seen fits whole a =
      IsNode context_of m rule fits a.context a.node × whole (tree_view see seen a)

-- a placeholder for a tree of a kind that is never made
abbrev pub placeholder : {V O : Type 0} → Tree V O
placeholder = leaf (place 0 [] null_type)
