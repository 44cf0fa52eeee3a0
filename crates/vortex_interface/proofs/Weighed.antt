-- A tree's weight is positive, and at most five for each of its nodes.
use Rattle.std.proofs.Common.{ℕ, ◌*◌, ◌<◌, ◌≤◌, Bool, true, arith}
use Rattle.vortex_operators.specs.declared.operators.Operator.{Operator}
use Rattle.vortex_operators.specs.declared.operators.Operator.TheVariants.{And, Or}
use Rattle.vortex_interface.specs.Meaning.{Meaning}
use Rattle.vortex_interface.specs.Shipped.{Shipped, Binary, Not}
use Rattle.vortex_interface.specs.Functions.{Function, ours, custom}
use Rattle.vortex_interface.specs.Trees.{Tree, leaf, constant, call, Trees, no_trees, tree}
use Rattle.vortex_interface.specs.Trees.{node_count, nodes_count}
use Rattle.vortex_interface.specs.Rules.{is_nullable_tree}
use Rattle.vortex_interface.specs.Weights.{operator_added, shipped_added, added, weight, weights}

-- a call adds one to five
abbrev IsSmall : ℕ → Type 0
IsSmall a = (0 < a) × (a ≤ 5)

operator_small : (op : Operator) (n : Bool) → IsSmall (operator_added op n)
operator_small And true = (omega arith, omega arith)
operator_small Or true = (omega arith, omega arith)
operator_small op n = (omega arith, omega arith)

shipped_small : (s : Shipped) (n : Bool) → IsSmall (shipped_added s n)
shipped_small (Binary op) n = operator_small op n
shipped_small Not true = (omega arith, omega arith)
shipped_small s n = (omega arith, omega arith)

added_small : {V O : Type 0} (f : Function V O) (n : Bool) → IsSmall (added f n)
added_small (ours s) n = shipped_small s n
added_small (custom f o) n = (omega arith, omega arith)

pub added_positive : {V O : Type 0} (f : Function V O) (n : Bool) → 0 < added f n
added_positive f n = (added_small f n).0

module _ {V O : Type 0} (m : Meaning V O) where
  pub weight_positive : (t : Tree V O) → 0 < weight m t
  weight_positive (leaf l) = omega arith
  weight_positive (constant s) = omega arith
  weight_positive (call f ts) =
      let some = added_positive f (is_nullable_tree m (call f ts)) in
      omega (arith, some)

  mutual
    pub weight_bound : (t : Tree V O) → weight m t ≤ 5 * node_count t
    weight_bound (leaf l) = omega arith
    weight_bound (constant s) = omega arith
    weight_bound (call f ts) =
        let small = (added_small f (is_nullable_tree m (call f ts))).1 in
        let below = weights_bound ts in
        omega (arith, small, below)

    weights_bound : (ts : Trees V O) → weights m ts ≤ 5 * nodes_count ts
    weights_bound no_trees = omega arith
    weights_bound (tree t ts) =
        let first = weight_bound t in
        let others = weights_bound ts in
        omega (arith, first, others)
