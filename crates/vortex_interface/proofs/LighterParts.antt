-- What rules for shipped functions make of a call weighs less: a constant, or an operand, cast if
-- needed.
use Rattle.std.proofs.Common.{◌≡◌, ◌+◌, ◌<◌, ◌≤◌, Bool, true, false, refl, arith}
use Rattle.std.specs.Prelude.{if◌then◌else◌}
use Rattle.vortex_operators.specs.declared.operators.Operator.{Operator}
use Rattle.vortex_interface.specs.Meaning.{Meaning}
use Rattle.vortex_interface.specs.Shipped.{Binary}
use Rattle.vortex_interface.specs.Functions.{Function, ours}
use Rattle.vortex_interface.specs.Trees.{Tree, call, Trees, tree}
use Rattle.vortex_interface.specs.ComparisonTrees.{operated}
use Rattle.vortex_interface.specs.Rules.{cast_of, is_nullable_tree, widened}
use Rattle.vortex_interface.specs.Weights.{weight, OnlyShipped}
use Rattle.vortex_interface.proofs.Weighed.{added_positive, weight_positive}

module _ {V O : Type 0} (m : Meaning V O) where
  -- of shipped functions only, and lighter than the node
  abbrev pub IsLess : Tree V O → Tree V O → Type 0
  IsLess node u = OnlyShipped u × (weight m u < weight m node)

  -- a call weighs more than a child
  pub child_less : (f : Function V O) (x : Tree V O) (ts : Trees V O) → OnlyShipped x
      → IsLess (call f (tree x ts)) x
  child_less f x ts s =
      let more = added_positive f (is_nullable_tree m (call f (tree x ts))) in
      (s, omega (arith, more))

  -- and more than a constant
  pub above_one : (f : Function V O) (x : Tree V O) (ts : Trees V O)
      → 1 < weight m (call f (tree x ts))
  above_one f x ts =
      let more = added_positive f (is_nullable_tree m (call f (tree x ts))) in
      let some = weight_positive m x in
      omega (arith, more, some)

  -- a cast adds at most one
  widened_weight : (n : Bool) (x : Tree V O) → weight m (widened m n x) ≤ 1 + weight m x
  widened_weight false x = omega arith
  widened_weight true x = by (is_nullable_tree m x)
    where
      by : (b : Bool) → weight m (if b then x else cast_of x) ≤ 1 + weight m x
      by true = omega arith
      by false = omega arith

  widened_shipped : (n : Bool) (x : Tree V O) → OnlyShipped x → OnlyShipped (widened m n x)
  widened_shipped false x s = s
  widened_shipped true x s = by (is_nullable_tree m x)
    where
      by : (b : Bool) → OnlyShipped (if b then x else cast_of x)
      by true = s
      by false = (tt, (s, tt))

  -- a call with two arguments weighs more than both
  operated_weight : (op : Operator) (x y : Tree V O)
      → weight m x + weight m y < weight m (operated op x y)
  operated_weight op x y =
      let f : Function V O = ours (Binary op) in
      let more = added_positive f (is_nullable_tree m (operated op x y)) in
      omega (arith, more)

  -- and so more than one of them, even when cast
  operand_less : (op : Operator) (n : Bool) (x y z other : Tree V O) → OnlyShipped z
      → weight m z + weight m other ≡ weight m x + weight m y
      → IsLess (operated op x y) (widened m n z)
  operand_less op n x y z other s same =
      let both = operated_weight op x y in
      let some = weight_positive m other in
      let wide = widened_weight n z in
      (widened_shipped n z s, omega (arith, both, some, wide, same))

  pub left_less : (op : Operator) (n : Bool) (x y : Tree V O) → OnlyShipped x
      → IsLess (operated op x y) (widened m n x)
  left_less op n x y s = operand_less op n x y x y s refl

  pub right_less : (op : Operator) (n : Bool) (x y : Tree V O) → OnlyShipped y
      → IsLess (operated op x y) (widened m n y)
  right_less op n x y s = operand_less op n x y y x s (omega arith)
