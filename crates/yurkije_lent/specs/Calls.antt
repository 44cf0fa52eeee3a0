-- Calls that are executed over rows where they lie.
use Rattle.std.specs.Prelude.{◌≡◌, ◌&&◌, ℕ, zero, suc, Bool, true, false, Option, Some, None, ⊤}
use Rattle.std.specs.Prelude.{is_some}
use Rattle.vortex_errors.specs.declared.error.NumericOperator.{NumericOperator}
use Rattle.vortex_errors.specs.declared.error.NumericOperator.TheVariants.{Div}
use Rattle.vortex_operators.specs.Arithmetic.{numeric_operator_of}
use Rattle.vortex_operators.specs.Operators.{compare_operator_of}
use Rattle.vortex_operators.specs.declared.operators.Operator.{Operator}
use Rattle.vortex_interface.specs.Functions.{Function, ours, custom}
use Rattle.vortex_interface.specs.Shipped.{Shipped, Binary, Cast, Like, Between, NullTest}
use Rattle.vortex_interface.specs.Trees.{Tree, leaf, constant, call, Trees, no_trees, tree}
use Rattle.vortex_sql_floats.specs.declared.floats.FloatOperator.{FloatOperator}
use Rattle.vortex_standard.specs.declared.standard.Standard.{Standard}
use Rattle.vortex_standard.specs.declared.standard.Standard.TheVariants as standard
use Rattle.yurkije_lent.specs.Operands.{IsComparison, IsArithmetic}
use Rattle.yurkije_lent.specs.declared.calls.DirectCall.{DirectCall}
use Rattle.yurkije_lent.specs.declared.calls.DirectCall.TheVariants as direct

-- quotients of whole numbers are computed by ways of their own
abbrev pub is_direct_number : Option NumericOperator → Bool
is_direct_number (Some Div) = false
is_direct_number o = true

-- whether calls of a function are executed over rows where they lie: of all operators but such
-- quotients, Not, null tests, BETWEEN, and the arithmetic of floats
abbrev pub is_direct_shipped : Shipped → Bool
is_direct_shipped (Binary o) = is_direct_number (numeric_operator_of o)
is_direct_shipped Cast = false
is_direct_shipped (Like options) = false
is_direct_shipped s = true

abbrev pub float_operator_in : Standard → Option FloatOperator
float_operator_in (standard.FloatOperator op) = Some op
float_operator_in v = None

abbrev pub is_direct_function : {O : Type 0} → Function Standard O → Bool
is_direct_function (ours s) = is_direct_shipped s
is_direct_function (custom v o) = is_some (float_operator_in v)

-- whether all calls of a tree are, of which at most so many stand one in another
abbrev mutual
  pub is_direct_tree : {O : Type 0} → ℕ → Tree Standard O → Bool
  is_direct_tree depth (leaf l) = true
  is_direct_tree depth (constant s) = true
  is_direct_tree zero (call f ts) = false
  is_direct_tree (suc depth) (call f ts) = is_direct_function f && are_direct_trees depth ts

  pub are_direct_trees : {O : Type 0} → ℕ → Trees Standard O → Bool
  are_direct_trees depth no_trees = true
  are_direct_trees depth (tree t ts) = is_direct_tree depth t && are_direct_trees depth ts

-- the function is this arithmetic of floats
abbrev pub IsFloatOperator : {O : Type 0} → FloatOperator → Function Standard O → Type 0
IsFloatOperator {O} op f = (o : O) × (f ≡ custom (standard.FloatOperator op) o)

-- the function of a call; any for a call over columns
abbrev pub IsDirectCall : {O : Type 0} → DirectCall → Function Standard O → Type 0
IsDirectCall (direct.Comparison op) f = IsComparison op f
IsDirectCall (direct.Arithmetic op) f = IsArithmetic op f
IsDirectCall (direct.FloatArithmetic op) f = IsFloatOperator op f
IsDirectCall (direct.Between options) f = f ≡ ours (Between options)
IsDirectCall (direct.NullTest negated) f = f ≡ ours (NullTest negated)
IsDirectCall direct.OfTruths f = ⊤

-- the call of an operator of two operands
abbrev pub IsOperatorCall : Operator → DirectCall → Type 0
IsOperatorCall o (direct.Comparison op) = compare_operator_of o ≡ Some op
IsOperatorCall o (direct.Arithmetic op) = numeric_operator_of o ≡ Some op
IsOperatorCall o (direct.FloatArithmetic op) = ⊥
IsOperatorCall o (direct.Between options) = ⊥
IsOperatorCall o (direct.NullTest negated) = ⊥
IsOperatorCall o direct.OfTruths = ⊤
