-- The results of Simplify for a node of an expression: operators with a literal. Trees over arrays
-- are not simplified.
use Rattle.std.specs.Prelude.{Option, Some, None, Bool, true, false, ◌&&◌, ◌||◌, if◌then◌else◌}
use Rattle.std.specs.Option.{option_or}
use Rattle.vortex_types.specs.LogicalTypes.{bool_type, is_nullable}
use Rattle.vortex_types.specs.Values.{null, is_null}
use Rattle.vortex_types.specs.ScalarView.{ScalarView}
use Rattle.vortex_operators.specs.Kleene.{decides}
use Rattle.vortex_operators.specs.declared.operators.Operator.{Operator}
use Rattle.vortex_operators.specs.declared.operators.Operator.TheVariants.{And, Or, Add, Sub, Mul}
use Rattle.vortex_operators.specs.declared.operators.Operator.TheVariants.{Div}
use Rattle.vortex_interface.specs.Meaning.{Meaning}
use Rattle.vortex_interface.specs.Shipped.{Shipped, Binary}
use Rattle.vortex_interface.specs.Functions.{ours, custom}
use Rattle.vortex_interface.specs.Trees.{Tree, leaf, constant, call, Trees, no_trees, tree, literal}
use Rattle.vortex_interface.specs.ComparisonTrees.{operated}
use Rattle.vortex_interface.specs.Rules.{Rules, truth_constant, constant_truth}
use Rattle.vortex_interface.specs.Rules.{is_nullable_tree, widened}

-- null, of a type that has null, like each null scalar
abbrev pub is_null_scalar : Option ScalarView → Bool
is_null_scalar None = false
is_null_scalar (Some s) = is_null s.value && is_nullable s.dtype

-- whether the tree is a literal that is null
abbrev pub is_null_literal : {V O : Type 0} → Tree V O → Bool
is_null_literal t = is_null_scalar (literal t)

-- a comparison with a null literal on either side is null
abbrev pub simplify_comparison : {V O : Type 0} → Tree V O → Tree V O → Option (Tree V O)
simplify_comparison x y =
    if is_null_literal x || is_null_literal y
    then Some (constant (record { dtype = bool_type true; value = null }))
    else None

-- a literal that decides, of the type of its node, which is nullable or not
abbrev pub decided : {V O : Type 0} → Operator → Bool → Option Bool → Option (Tree V O)
decided op n None = None
decided op n (Some b) = if decides op b then Some (truth_constant n b) else None

-- the left of two null literals
abbrev pub left_of_nulls : {V O : Type 0} → Tree V O → Tree V O → Option (Tree V O)
left_of_nulls x y = if is_null_literal x && is_null_literal y then Some x else None

module _ {V O : Type 0} (m : Meaning V O) where
  -- with a literal that does not decide, the other operand
  abbrev pub undecided : Operator → Bool → Option Bool → Tree V O → Option (Tree V O)
  undecided op n None other = None
  undecided op n (Some b) other = if decides op b then None else Some (widened m n other)

  -- the first that applies: a literal that decides, on either side, or that does not, on the left
  -- or on the right, or two nulls
  abbrev pub simplify_operands : Operator → Bool → Tree V O → Tree V O → Option (Tree V O)
  simplify_operands op n x y =
      option_or (decided op n (constant_truth x))
      (option_or (decided op n (constant_truth y))
      (option_or (undecided op n (constant_truth x) y)
      (option_or (undecided op n (constant_truth y) x)
      (left_of_nulls x y))))

  -- And or Or with a literal
  abbrev pub simplify_boolean : Operator → Tree V O → Tree V O → Option (Tree V O)
  simplify_boolean op x y = simplify_operands op (is_nullable_tree m (operated op x y)) x y

  -- the rules for an operator: arithmetic has none
  abbrev pub simplify_operator : Operator → Tree V O → Tree V O → Option (Tree V O)
  simplify_operator And x y = simplify_boolean And x y
  simplify_operator Or x y = simplify_boolean Or x y
  simplify_operator Add x y = None
  simplify_operator Sub x y = None
  simplify_operator Mul x y = None
  simplify_operator Div x y = None
  simplify_operator comparison x y = simplify_comparison x y

  -- the rules for a shipped function: only operators have some
  abbrev pub simplify_shipped : Shipped → Trees V O → Option (Tree V O)
  simplify_shipped (Binary op) (tree x (tree y no_trees)) = simplify_operator op x y
  simplify_shipped s ts = None

  -- the simplified node of an expression, if a rule applies
  abbrev pub simplify : Rules V O → Tree V O → Option (Tree V O)
  simplify r (leaf l) = None
  simplify r (constant s) = None
  simplify r (call (ours s) ts) = simplify_shipped s ts
  simplify r (call (custom f o) ts) = r.simplify_of f o ts
