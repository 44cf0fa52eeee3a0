-- Rules at places and steps, computed for example trees.
use Rattle.std.proofs.Common.{◌≡◌, Bool, false, true, [], ◌∷◌, Option, Some, None, refl}
use Rattle.vortex_types.specs.LogicalTypes.{bool_type}
use Rattle.vortex_operators.specs.declared.operators.Operator.TheVariants.{And}
use Rattle.vortex_interface.specs.Meaning.{Meaning}
use Rattle.vortex_interface.specs.Trees.{place, Tree, leaf}
use Rattle.vortex_interface.specs.ComparisonTrees.{negated, operated}
use Rattle.vortex_interface.specs.Rules.{Rules, truth_constant, is_null_of, is_not_null_of}
use Rattle.vortex_interface.specs.ReduceRules.{reduce}
use Rattle.vortex_interface.specs.SimplifyRules.{simplify}
use Rattle.vortex_interface.specs.Weights.{weight}
use Rattle.vortex_interface.specs.Places.{rewritten, rewritten_list}
use Rattle.vortex_interface.specs.Driver.{simplify_or_reduce, step, Runs}

module _ {V O : Type 0} (m : Meaning V O) (r : Rules V O) where
  -- columns of Bool: x may be null, y is not
  abbrev x : Tree V O
  x = leaf (place 0 [] (bool_type true))

  abbrev y : Tree V O
  y = leaf (place 1 [] (bool_type false))

  -- both operands can be reduced, and the node once the left one is
  abbrev whole : Tree V O
  whole = operated And (is_null_of y) (is_not_null_of (negated x))

  -- where the left operand is
  abbrev after_left : Tree V O
  after_left = operated And (truth_constant false false) (is_not_null_of (negated x))

  -- and where both are
  abbrev after_both : Tree V O
  after_both = operated And (truth_constant false false) (is_not_null_of x)

  -- a rule at a place
  at_left : rewritten (reduce m r) (0 ∷ []) whole ≡ Some (Some after_left)
  at_left = refl

  at_right : rewritten (reduce m r) (1 ∷ []) after_left ≡ Some (Some after_both)
  at_right = refl

  at_top : rewritten (reduce m r) [] after_left ≡ Some (Some (truth_constant false false))
  at_top = refl

  not_there : rewritten (reduce m r) (1 ∷ 0 ∷ []) whole ≡ Some None
  not_there = refl

  no_such_child : rewritten (reduce m r) (2 ∷ []) whole ≡ None
  no_such_child = refl

  below_leaf : rewritten (reduce m r) (0 ∷ 0 ∷ 0 ∷ []) whole ≡ None
  below_leaf = refl

  -- rules in a list, by their names: true is Simplify
  abbrev named : Bool → Tree V O → Option (Tree V O)
  named true = simplify m r
  named false = reduce m r

  two_of_three : rewritten_list named
      ((false, 0 ∷ []) ∷ (true, 1 ∷ []) ∷ (true, []) ∷ []) whole
      ≡ Some (truth_constant false false, 2)
  two_of_three = refl

  -- the left operand is a constant after the first rule
  left_gone : rewritten_list named ((false, 0 ∷ []) ∷ (false, 0 ∷ 0 ∷ []) ∷ []) whole ≡ None
  left_gone = refl

  -- steps, children before their parent
  first_step : step (simplify_or_reduce m r) whole ≡ Some after_left
  first_step = refl

  run : Runs (simplify_or_reduce m r) 3 whole (truth_constant false false)
  run = (after_both, (after_left, (whole, refl, refl), refl), refl)

  end : step (simplify_or_reduce m r) (truth_constant false false) ≡ None
  end = refl

  -- weights
  whole_weighs : weight m whole ≡ 9
  whole_weighs = refl

  left_weighs : weight m after_left ≡ 7
  left_weighs = refl

  both_weighs : weight m after_both ≡ 5
  both_weighs = refl
