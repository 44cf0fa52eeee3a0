-- The rule table at work: results for some trees, each computed; and counterexamples to rewriting.
use Rattle.std.proofs.Common.{◌≡◌, ℕ, List, true, false, [], ◌∷◌, Some, None, refl}
use Rattle.vortex_types.specs.declared.dtype.PType.TheVariants.{I32}
use Rattle.vortex_types.specs.LogicalTypes.{LogicalType, null_type, bool_type, integer_type}
use Rattle.vortex_types.specs.LogicalTypes.{text_type}
use Rattle.vortex_types.specs.Values.{null, truth}
use Rattle.vortex_columns.specs.ColumnView.{ColumnView}
use Rattle.vortex_columns.specs.ValidityView.{ValidityForm, non_nullable, all_valid, all_invalid}
use Rattle.vortex_columns.specs.ValidityView.{array}
use Rattle.vortex_operators.specs.declared.operators.Operator.TheVariants.{Eq, And, Or, Add}
use Rattle.vortex_like.specs.declared.options.LikeOptions.{LikeOptions}
use Rattle.vortex_operators.specs.declared.between.BetweenOptions.{BetweenOptions}
use Rattle.vortex_interface.specs.Meaning.{Meaning}
use Rattle.vortex_interface.specs.Shipped.{Between, Like}
use Rattle.vortex_interface.specs.Functions.{ours}
use Rattle.vortex_interface.specs.Trees.{place, held, Tree, leaf, constant, call, no_trees, tree}
use Rattle.vortex_interface.specs.ComparisonTrees.{negated, operated}
use Rattle.vortex_interface.specs.Rules.{Rules, truth_constant, is_null_of, is_not_null_of, cast_of}
use Rattle.vortex_interface.specs.ValidityRules.{all_of, validity}
use Rattle.vortex_interface.specs.Rewrites.{Rewrites}
use Rattle.vortex_interface.specs.ReduceRules.{reduce}
use Rattle.vortex_interface.specs.SimplifyRules.{simplify}

module _ {V O : Type 0} (m : Meaning V O) (r : Rules V O) where
  -- columns of Bool, of integers, of texts and of Null: x, i and s may be null, y and j are not
  abbrev x : Tree V O
  x = leaf (place 0 [] (bool_type true))

  abbrev y : Tree V O
  y = leaf (place 1 [] (bool_type false))

  abbrev i : Tree V O
  i = leaf (place 2 [] (integer_type I32 true))

  abbrev j : Tree V O
  j = leaf (place 3 [] (integer_type I32 false))

  abbrev s : Tree V O
  s = leaf (place 4 [] (text_type true))

  abbrev n : Tree V O
  n = leaf (place 5 [] null_type)

  -- the null of Bool, and of integers
  abbrev no_truth : Tree V O
  no_truth = constant (record { dtype = bool_type true; value = null })

  abbrev no_number : Tree V O
  no_number = constant (record { dtype = integer_type I32 true; value = null })

  -- validity
  of_place : validity m r x ≡ None
  of_place = refl

  of_null : validity m r no_number ≡ Some (truth_constant false false)
  of_null = refl

  of_not : validity m r (negated x) ≡ Some (is_not_null_of x)
  of_not = refl

  of_not_solid : validity m r (negated y) ≡ Some (truth_constant false true)
  of_not_solid = refl

  of_comparison : validity m r (operated Eq i i)
      ≡ Some (operated And (is_not_null_of i) (is_not_null_of i))
  of_comparison = refl

  of_sum : validity m r (operated Add j i) ≡ Some (is_not_null_of i)
  of_sum = refl

  of_like : (options : LikeOptions)
      → validity m r (call (ours (Like options)) (tree s (tree s no_trees)))
      ≡ Some (operated And (is_not_null_of s) (is_not_null_of s))
  of_like options = refl

  of_null_type : validity m r (operated Eq n n) ≡ None
  of_null_type = refl

  of_and : validity m r (operated And x y) ≡ None
  of_and = refl

  of_cast : validity m r (cast_of y) ≡ None
  of_cast = refl

  of_null_test : validity m r (is_null_of x) ≡ None
  of_null_test = refl

  of_between : (options : BetweenOptions)
      → validity m r (call (ours (Between options)) (tree i (tree j (tree j no_trees)))) ≡ None
  of_between options = refl

  -- a held column of two rows, and the bits of the rows that are not null
  abbrev held_in : ValidityForm → ColumnView
  held_in form =
      record {
        dtype = bool_type true;
        rows = truth true ∷ null ∷ [];
        constant = None;
        form = form;
      }

  abbrev bits : ColumnView
  bits =
      record {
        dtype = bool_type false;
        rows = truth true ∷ truth false ∷ [];
        constant = None;
        form = non_nullable;
      }

  of_all_valid : validity m r (leaf (held (held_in all_valid)))
      ≡ Some (truth_constant false true)
  of_all_valid = refl

  of_all_invalid : validity m r (leaf (held (held_in all_invalid)))
      ≡ Some (truth_constant false false)
  of_all_invalid = refl

  of_array : validity m r (leaf (held (held_in array)))
      ≡ Some (leaf (held bits))
  of_array = refl

  -- joining by And
  three_joined : (a b c : Tree V O)
      → all_of (a ∷ b ∷ c ∷ []) ≡ operated And (operated And a b) c
  three_joined a b c = refl

  five_joined : (a b c d e : Tree V O)
      → all_of (a ∷ b ∷ c ∷ d ∷ e ∷ [])
      ≡ operated And (operated And a b) (operated And (operated And c d) e)
  five_joined a b c d e = refl

  -- Reduce
  test_of_solid : reduce m r (is_null_of y) ≡ Some (truth_constant false false)
  test_of_solid = refl

  test_of_place : reduce m r (is_not_null_of x) ≡ None
  test_of_place = refl

  test_of_not : reduce m r (is_null_of (negated x)) ≡ Some (negated (is_not_null_of x))
  test_of_not = refl

  null_and : reduce m r (is_null_of (operated And x y)) ≡ Some (operated And (is_null_of x) y)
  null_and = refl

  null_and_right : reduce m r (is_null_of (operated And y x))
      ≡ Some (operated And (is_null_of x) y)
  null_and_right = refl

  null_or : reduce m r (is_null_of (operated Or y x))
      ≡ Some (operated And (is_null_of x) (negated y))
  null_or = refl

  not_null_and : reduce m r (is_not_null_of (operated And y x))
      ≡ Some (operated Or (is_not_null_of x) (negated y))
  not_null_and = refl

  not_null_or : reduce m r (is_not_null_of (operated Or x y))
      ≡ Some (operated Or (is_not_null_of x) y)
  not_null_or = refl

  null_and_both : reduce m r (is_null_of (operated And x x)) ≡ None
  null_and_both = refl

  two_constants :
      reduce m r (operated Or (truth_constant true false) (truth_constant false false))
      ≡ Some (truth_constant true false)
  two_constants = refl

  false_and : reduce m r (operated And x (truth_constant false false))
      ≡ Some (truth_constant true false)
  false_and = refl

  true_and : reduce m r (operated And (truth_constant true true) y) ≡ Some (cast_of y)
  true_and = refl

  true_and_null : reduce m r (operated And (truth_constant false true) no_truth) ≡ Some no_truth
  true_and_null = refl

  null_and_place : reduce m r (operated And no_truth x) ≡ None
  null_and_place = refl

  -- Simplify
  null_compared : simplify m r (operated Eq j no_number) ≡ Some no_truth
  null_compared = refl

  null_added : simplify m r (operated Add j no_number) ≡ None
  null_added = refl

  true_and_false :
      simplify m r (operated And (truth_constant true true) (truth_constant false false))
      ≡ Some (truth_constant true false)
  true_and_false = refl

  or_false : simplify m r (operated Or x (truth_constant false false)) ≡ Some x
  or_false = refl

  two_nulls : simplify m r (operated Or no_truth no_truth) ≡ Some no_truth
  two_nulls = refl

  -- a place with another name is no rewrite
  of_other_name : (p : ℕ) (a b : List ℕ) (k : LogicalType) → ¬ (a ≡ b)
      → ¬ Rewrites m (leaf (place p a k)) (leaf (place p b k))
  of_other_name p a b k other h =
      let same : place p b k ≡ place p a k = h.asks.leaves p b k refl in
      let names : a ≡ b = cc in
      other names
