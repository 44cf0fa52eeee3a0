-- The two null tests, and their results for And or Or with one nullable operand.
use Rattle.std.specs.Prelude.{Option, Some, None, Bool, true, false}
use Rattle.std.specs.Option.{option_and_then, option_map}
use Rattle.vortex_operators.specs.declared.operators.Operator.{Operator}
use Rattle.vortex_operators.specs.declared.operators.Operator.TheVariants.{And, Or}
use Rattle.vortex_rewriting.specs.declared.null_tests.NullTest.{NullTest}
use Rattle.vortex_rewriting.specs.declared.null_tests.NullTest.TheVariants as test
use Rattle.vortex_interface.specs.Meaning.{Meaning}
use Rattle.vortex_interface.specs.Shipped.{Shipped, Binary, IsNull, IsNotNull}
use Rattle.vortex_interface.specs.Functions.{Function, ours}
use Rattle.vortex_interface.specs.Trees.{Tree, call, no_trees, tree, called}
use Rattle.vortex_interface.specs.ComparisonTrees.{negated, operated}
use Rattle.vortex_interface.specs.ReduceRules.{by_nullability, is_null_within, is_not_null_within}

abbrev pub test_function : NullTest → Shipped
test_function test.IsNull = IsNull
test_function test.IsNotNull = IsNotNull

-- the test's result for a value that is not null
abbrev pub of_no_null : NullTest → Bool
of_no_null test.IsNull = false
of_no_null test.IsNotNull = true

-- the operator that joins the test of one operand to the other operand
abbrev pub joined_by : NullTest → Operator
joined_by test.IsNull = And
joined_by test.IsNotNull = Or

-- the operator of a call of And or Or
abbrev pub boolean_in : {V O : Type 0} → Function V O → Option Operator
boolean_in (ours (Binary And)) = Some And
boolean_in (ours (Binary Or)) = Some Or
boolean_in f = None

abbrev pub boolean_called : {V O : Type 0} → Tree V O → Option Operator
boolean_called t = option_and_then boolean_in (called t)

module _ {V O : Type 0} where
  abbrev pub tested : NullTest → Tree V O → Tree V O
  tested which x = call (ours (test_function which)) (tree x no_trees)

  -- the result of the test from a node's validity
  abbrev pub by_validity : NullTest → Tree V O → Tree V O
  by_validity test.IsNull valid = negated valid
  by_validity test.IsNotNull valid = valid

  -- the other operand, unchanged with its own operator, and negated with the other one
  abbrev pub beside_test : NullTest → Operator → Tree V O → Tree V O
  beside_test test.IsNull And y = y
  beside_test test.IsNull op y = negated y
  beside_test test.IsNotNull Or y = y
  beside_test test.IsNotNull op y = negated y

  -- the test of And or Or, from its nullable operand and the other one
  abbrev pub split : NullTest → Operator → Tree V O → Tree V O → Tree V O
  split which op x y = operated (joined_by which) (tested which x) (beside_test which op y)

  module _ (m : Meaning V O) where
    abbrev pub within : NullTest → Tree V O → Option (Tree V O)
    within test.IsNull t = is_null_within m t
    within test.IsNotNull t = is_not_null_within m t

    -- the same from the operands
    abbrev pub within_operands : NullTest → Operator → Tree V O → Tree V O → Option (Tree V O)
    within_operands which op x y = option_map (λ p. split which op p.0 p.1) (by_nullability m x y)
