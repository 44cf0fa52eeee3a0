-- The results of Reduce for a node, in expressions and in trees over arrays: null tests that need
-- not compute their child, and And and Or with a constant. In a tree over arrays a constant column
-- is that constant, and rules make the same constant in either kind of tree.
use Rattle.std.specs.Prelude.{Option, Some, None, Bool, true, false, if◌then◌else◌}
use Rattle.std.specs.Option.{option_map, option_or}
use Rattle.vortex_types.specs.LogicalTypes.{bool_type}
use Rattle.vortex_types.specs.Values.{truth_or_null}
use Rattle.vortex_operators.specs.declared.operators.Operator.{Operator}
use Rattle.vortex_operators.specs.declared.operators.Operator.TheVariants.{And, Or}
use Rattle.vortex_operators.specs.Kleene.{kleene, decides}
use Rattle.vortex_interface.specs.Meaning.{Meaning}
use Rattle.vortex_interface.specs.Shipped.{Shipped, Binary, NullTest}
use Rattle.vortex_interface.specs.Functions.{ours, custom}
use Rattle.vortex_interface.specs.Trees.{Tree, leaf, constant, call, Trees, no_trees, tree}
use Rattle.vortex_interface.specs.ComparisonTrees.{negated, operated}
use Rattle.vortex_interface.specs.Rules.{Rules, truth_constant, is_null_of, is_not_null_of}
use Rattle.vortex_interface.specs.Rules.{constant_truth, is_nullable_tree, widened}
use Rattle.vortex_interface.specs.ValidityRules.{validity}

-- two operands, the nullable one first, if one of them is nullable and one is not
abbrev pub nullable_first : {V O : Type 0} → Bool → Bool → Tree V O → Tree V O
    → Option (Tree V O × Tree V O)
nullable_first true false x y = Some (x, y)
nullable_first false true x y = Some (y, x)
nullable_first n p x y = None

-- the operator's table for two truth values, as a constant of Bool, nullable or not
abbrev pub table_constant : {V O : Type 0} → Operator → Bool → Option Bool → Option Bool → Tree V O
table_constant op n a b =
    constant (record { dtype = bool_type n; value = truth_or_null (kleene op a b) })

module _ {V O : Type 0} (m : Meaning V O) where
  -- the same, by the operands' types
  abbrev pub by_nullability : Tree V O → Tree V O → Option (Tree V O × Tree V O)
  by_nullability x y = nullable_first (is_nullable_tree m x) (is_nullable_tree m y) x y

  -- And or Or is null where its nullable operand is and the other does not decide
  abbrev pub is_null_within : Tree V O → Option (Tree V O)
  is_null_within (call (ours (Binary And)) (tree x (tree y no_trees))) =
      option_map (λ p. operated And (is_null_of p.0) p.1) (by_nullability x y)
  is_null_within (call (ours (Binary Or)) (tree x (tree y no_trees))) =
      option_map (λ p. operated And (is_null_of p.0) (negated p.1)) (by_nullability x y)
  is_null_within t = None

  -- and not null where its nullable operand is not, or the other decides
  abbrev pub is_not_null_within : Tree V O → Option (Tree V O)
  is_not_null_within (call (ours (Binary And)) (tree x (tree y no_trees))) =
      option_map (λ p. operated Or (is_not_null_of p.0) (negated p.1)) (by_nullability x y)
  is_not_null_within (call (ours (Binary Or)) (tree x (tree y no_trees))) =
      option_map (λ p. operated Or (is_not_null_of p.0) p.1) (by_nullability x y)
  is_not_null_within t = None

  -- of a child that is never null, one whose validity is a tree, or And or Or with one nullable
  -- operand
  abbrev pub reduce_is_null : Rules V O → Trees V O → Option (Tree V O)
  reduce_is_null r (tree x no_trees) =
      if is_nullable_tree m x
      then option_or (option_map negated (validity m r x)) (is_null_within x)
      else Some (truth_constant false false)
  reduce_is_null r ts = None

  -- the other null test, of the same
  abbrev pub reduce_is_not_null : Rules V O → Trees V O → Option (Tree V O)
  reduce_is_not_null r (tree x no_trees) =
      if is_nullable_tree m x then option_or (validity m r x) (is_not_null_within x)
      else Some (truth_constant false true)
  reduce_is_not_null r ts = None

  -- a constant and another operand, of a node that is nullable or not: it decides, or the
  -- other one stays
  abbrev pub beside_constant : Operator → Bool → Bool → Tree V O → Tree V O
  beside_constant op n b other =
      if decides op b then truth_constant n b else widened m n other

  -- And or Or of two operands, by the truth values of those that are constants
  abbrev pub of_constants : Operator → Bool → Tree V O → Tree V O → Option Bool → Option Bool
      → Option (Tree V O)
  of_constants op n x y (Some a) (Some b) = Some (table_constant op n (Some a) (Some b))
  of_constants op n x y (Some a) None = Some (beside_constant op n a y)
  of_constants op n x y None (Some b) = Some (beside_constant op n b x)
  of_constants op n x y None None = None

  -- And or Or with a constant
  abbrev pub reduce_boolean : Operator → Trees V O → Option (Tree V O)
  reduce_boolean op (tree x (tree y no_trees)) =
      let n = is_nullable_tree m (operated op x y) in
      of_constants op n x y (constant_truth x) (constant_truth y)
  reduce_boolean op ts = None

  -- the rules for an operator: only And and Or have some
  abbrev pub reduce_operator : Operator → Trees V O → Option (Tree V O)
  reduce_operator And ts = reduce_boolean And ts
  reduce_operator Or ts = reduce_boolean Or ts
  reduce_operator op ts = None

  -- the rules for a shipped function: only operators and null tests have some
  abbrev pub reduce_shipped : Rules V O → Shipped → Trees V O → Option (Tree V O)
  reduce_shipped r (Binary op) ts = reduce_operator op ts
  reduce_shipped r (NullTest false) ts = reduce_is_null r ts
  reduce_shipped r (NullTest true) ts = reduce_is_not_null r ts
  reduce_shipped r s ts = None

  -- the reduced node, if a rule applies
  abbrev pub reduce : Rules V O → Tree V O → Option (Tree V O)
  reduce r (leaf l) = None
  reduce r (constant s) = None
  reduce r (call (ours s) ts) = reduce_shipped r s ts
  reduce r (call (custom f o) ts) = r.reduce_of f o ts
