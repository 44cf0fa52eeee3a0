-- The tree that each call makes: a shipped function over the trees of its operands, each with the
-- digits after the point that it lacks.
use Rattle.std.specs.Prelude.{◌^◌, ℕ, zero, suc, ℤ, pos, [], ◌∷◌, Option, Some, None}
use Rattle.std.specs.Prelude.{Bool, true, false, if◌then◌else◌, option_and_then}
use Rattle.vortex_errors.specs.declared.error.NumericOperator.{NumericOperator}
use Rattle.vortex_errors.specs.declared.error.NumericOperator.TheVariants as numeric
use Rattle.vortex_types.specs.declared.dtype.PType.TheVariants.{I64}
use Rattle.vortex_types.specs.LogicalTypes.{LogicalType, integer_type}
use Rattle.vortex_types.specs.ScalarView.{ScalarView}
use Rattle.vortex_columns.specs.ScalarOf.{int_scalar}
use Rattle.vortex_columns.specs.SingleParts.{number_of}
use Rattle.vortex_operators.specs.declared.between.BetweenOptions.{BetweenOptions}
use Rattle.vortex_operators.specs.declared.operators.CompareOperator.{CompareOperator}
use Rattle.vortex_operators.specs.declared.operators.Operator.{Operator}
use Rattle.vortex_operators.specs.declared.operators.Operator.TheVariants as operator
use Rattle.vortex_operators.specs.Operators.{operator_of}
use Rattle.vortex_interface.specs.ComparisonTrees.{operated}
use Rattle.vortex_interface.specs.Shipped.{Between}
use Rattle.vortex_interface.specs.Functions.{ours}
use Rattle.vortex_interface.specs.Trees.{Tree, constant, call, trees_of, literal}
use Rattle.vortex_logical.specs.Decimals.{shifted}
use Rattle.vortex_lowering.specs.Operands.{common_scale, bounds_scale, lacking, is_held}
use Rattle.vortex_lowering.specs.Results.{met_scale}
use Rattle.vortex_lowering.specs.Rows.{Lowered}

abbrev pub arithmetic_operator : NumericOperator → Operator
arithmetic_operator numeric.Add = operator.Add
arithmetic_operator numeric.Sub = operator.Sub
arithmetic_operator numeric.Mul = operator.Mul
arithmetic_operator numeric.Div = operator.Div

abbrev pub is_wide : LogicalType → Bool
is_wide (integer_type I64 n) = true
is_wide t = false

-- the number of a scalar of 64 bits
abbrev pub wide_number : ScalarView → Option ℤ
wide_number s = if is_wide s.dtype then number_of s.value else None

-- z * 10 ^ k, if 64 bits hold it
abbrev pub longer_number : ℕ → ℤ → Option ℤ
longer_number k z = if is_held k z then Some (shifted z k) else None

module _ {V O : Type 0} where
  -- the number of a constant of 64 bits
  abbrev pub constant_number : Tree V O → Option ℤ
  constant_number t = option_and_then wide_number (literal t)

  -- the constant of the number, or else the tree
  abbrev pub constant_or : Option ℤ → Tree V O → Tree V O
  constant_or None t = t
  constant_or (Some z) t = constant (int_scalar I64 z)

  -- times 10 ^ k
  abbrev pub multiplied_tree : ℕ → Tree V O → Tree V O
  multiplied_tree k t = operated operator.Mul t (constant (int_scalar I64 (pos (10 ^ k))))

  -- each number with k digits more after the point: a constant is made anew where 64 bits hold it,
  -- else there is a product in each row
  abbrev pub lengthened_tree : ℕ → Tree V O → Tree V O
  lengthened_tree zero t = t
  lengthened_tree (suc k) t =
      constant_or (option_and_then (longer_number (suc k)) (constant_number t))
      (multiplied_tree (suc k) t)

  abbrev pub tree_at_scale : ℕ → Lowered V O → Tree V O
  tree_at_scale u x = lengthened_tree (lacking u x.operand) x.tree

  -- the comparison at the larger scale
  abbrev pub compared_tree : CompareOperator → Lowered V O → Lowered V O → Tree V O
  compared_tree op x y =
      let u = common_scale x.operand y.operand in
      operated (operator_of op) (tree_at_scale u x) (tree_at_scale u y)

  -- whether x is between its bounds, all at the largest scale
  abbrev pub bounded_tree : BetweenOptions → Lowered V O → Lowered V O → Lowered V O → Tree V O
  bounded_tree o x low high =
      let u = bounds_scale x.operand low.operand high.operand in
      call (ours (Between o))
      (trees_of (tree_at_scale u x ∷ tree_at_scale u low ∷ tree_at_scale u high ∷ []))

  -- sums and differences at the larger scale; the product of what the factors are
  abbrev pub computed_tree : NumericOperator → Lowered V O → Lowered V O → Tree V O
  computed_tree o x y =
      let u = met_scale o x.operand y.operand in
      operated (arithmetic_operator o) (tree_at_scale u x) (tree_at_scale u y)
