-- The weight of a tree, which every rule over shipped functions lowers, and trees of only shipped
-- functions.
use Rattle.std.specs.Prelude.{◌≡◌, ℕ, ◌+◌, ◌≤◌, min, Bool, Option, Some, ⊤}
use Rattle.vortex_types.specs.LogicalTypes.{LogicalType}
use Rattle.vortex_interface.specs.Meaning.{Meaning}
pub use Rattle.vortex_interface.specs.Shipped.{shipped_added}
pub use Rattle.vortex_interface.specs.Shipped.BinaryFunction.{operator_added}
use Rattle.vortex_interface.specs.Functions.{Function, ours, custom}
use Rattle.vortex_interface.specs.Trees.{Tree, leaf, constant, call, Trees, no_trees, tree}
use Rattle.vortex_interface.specs.Eval.{tree_type}
use Rattle.vortex_interface.specs.Rules.{is_nullable_tree}

-- what a call of any function adds to the weight of its children, if the call is nullable and if it
-- is not
abbrev pub added : {V O : Type 0} → Function V O → Bool → ℕ
added (ours s) n = shipped_added s n
added (custom f o) n = 1

module _ {V O : Type 0} (m : Meaning V O) where
  abbrev mutual
    pub weight : Tree V O → ℕ
    weight (leaf l) = 1
    weight (constant s) = 1
    weight (call f ts) = added f (is_nullable_tree m (call f ts)) + weights ts

    pub weights : Trees V O → ℕ
    weights no_trees = 0
    weights (tree t ts) = weight t + weights ts

  -- saturated to 64 bits
  abbrev pub weight_told : Tree V O → ℕ
  weight_told t = min (weight t) 18446744073709551615

-- no caller's function is called
abbrev pub IsOurs : {V O : Type 0} → Function V O → Type 0
IsOurs (ours s) = ⊤
IsOurs (custom f o) = ⊥

abbrev mutual
  pub OnlyShipped : {V O : Type 0} → Tree V O → Type 0
  OnlyShipped (leaf l) = ⊤
  OnlyShipped (constant s) = ⊤
  OnlyShipped (call f ts) = IsOurs f × AllShipped ts

  -- the same for several trees
  pub AllShipped : {V O : Type 0} → Trees V O → Type 0
  AllShipped no_trees = ⊤
  AllShipped (tree t ts) = OnlyShipped t × AllShipped ts

module _ {V O : Type 0} (m : Meaning V O) where
  -- the new tree has the old one's type, calls only shipped functions, and weighs less by at least
  -- that much
  pub record IsLighter (n : ℕ) (t u : Tree V O) : Type 0 where
    pub dtype : tree_type m u ≡ tree_type m t
    pub shipped : OnlyShipped u
    pub lighter : n + weight m u ≤ weight m t

  -- a rule makes well-typed trees of only shipped functions lighter
  abbrev pub Lightens : (Tree V O → Option (Tree V O)) → Type 0
  Lightens rule =
      (t u : Tree V O) (k : LogicalType) → tree_type m t ≡ Some k → OnlyShipped t
      → rule t ≡ Some u → IsLighter 1 t u
