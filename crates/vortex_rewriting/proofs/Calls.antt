-- Calls that are well typed: how many children they have.
use Rattle.std.proofs.Common.{◌≡◌, suc, true, List, [], length, Some, ap, ◌∙◌}
use Rattle.vortex_types.specs.LogicalTypes.{LogicalType}
use Rattle.vortex_interface.specs.Meaning.{Meaning, fits}
use Rattle.vortex_interface.specs.Functions.{Function, function_arity}
use Rattle.vortex_interface.specs.Trees.{Tree, leaf, constant, call, Trees, no_trees, tree, list_of}
use Rattle.vortex_interface.specs.Trees.{children_of, called}
use Rattle.vortex_interface.specs.Eval.{tree_type, tree_types}
use Rattle.vortex_interface.proofs.TypedCalls.{types_parts, typed_call}

module _ {V O : Type 0} (m : Meaning V O) where
  -- each tree of a typed list has a type
  as_many : (ts : Trees V O) (ks : List LogicalType) → tree_types m ts ≡ Some ks
      → length (list_of ts) ≡ length ks
  as_many no_trees ks h = let is : [] ≡ ks = cc in ap length is
  as_many (tree t ts) ks h =
      let p = types_parts (tree_type m t) (tree_types m ts) ks h in
      ap suc (as_many ts p.1 p.3) ∙ ap length p.4

  -- the count of a well-typed call's children fits its function
  pub children_fit : (t : Tree V O) (f : Function V O) (k : LogicalType) → called t ≡ Some f
      → tree_type m t ≡ Some k → fits (function_arity m f) (length (children_of t)) ≡ true
  children_fit (leaf l) f k c h = cc
  children_fit (constant s) f k c h = cc
  children_fit (call g ts) f k c h =
      let same : f ≡ g = cc in
      let typed = typed_call m g ts k h in
      (λ j. fits (function_arity m (same j)) (as_many ts typed.types typed.children j))
      ∙ typed.fitting
