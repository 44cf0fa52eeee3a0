-- A well-typed null test: its operand, and the result of Reduce for the test.
use Rattle.std.proofs.Common.{◌≡◌, Bool, true, false, length, Option, Some, None, refl, sym, ap}
use Rattle.std.proofs.Common.{◌∙◌, arith}
use Rattle.std.specs.Prelude.{slice_get, if◌then◌else◌}
use borrow.Author.Tests.{eqb-true}
use Rattle.std.specs.Option.{option_map, option_or}
use Rattle.vortex_types.specs.LogicalTypes.{LogicalType, bool_type, is_nullable}
use Rattle.vortex_operators.specs.declared.operators.Operator.{Operator}
use Rattle.vortex_operators.specs.declared.operators.Operator.TheVariants.{And, Or}
use Rattle.vortex_operators.specs.Operators.{is_boolean}
use Rattle.vortex_interface.specs.Meaning.{Meaning}
use Rattle.vortex_interface.specs.Shipped.{Binary, IsNull, IsNotNull}
use Rattle.vortex_interface.specs.Functions.{Function, ours}
use Rattle.vortex_interface.specs.Trees.{Tree, leaf, constant, call, no_trees, tree, children_of}
use Rattle.vortex_interface.specs.Trees.{called}
use Rattle.vortex_interface.specs.Eval.{tree_type}
use Rattle.vortex_interface.specs.ComparisonTrees.{operated}
use Rattle.vortex_interface.specs.Rules.{Rules, truth_constant, may_be_null, is_nullable_tree}
use Rattle.vortex_interface.specs.ValidityRules.{validity}
use Rattle.vortex_interface.specs.ReduceRules.{is_not_null_within, reduce}
use Rattle.vortex_interface.proofs.TypedCalls.{type_of_two}
use Rattle.vortex_rewriting.specs.declared.null_tests.NullTest.{NullTest}
use Rattle.vortex_rewriting.specs.declared.null_tests.NullTest.TheVariants as test
use Rattle.vortex_rewriting.specs.NullTests.{test_function, of_no_null, joined_by, boolean_in}
use Rattle.vortex_rewriting.specs.NullTests.{boolean_called, tested, by_validity, within}
use Rattle.vortex_rewriting.specs.NullTests.{within_operands}
use Rattle.vortex_rewriting.proofs.Calls.{children_fit}

module _ {V O : Type 0} (m : Meaning V O) where
  pub has_operand : (which : NullTest) (t : Tree V O) (k : LogicalType)
      → called t ≡ Some (ours (test_function which)) → tree_type m t ≡ Some k
      → length (children_of t) ≡ 1
  has_operand test.IsNull t k c h = eqb-true (length (children_of t)) 1
      (children_fit m t (ours IsNull) k c h)
  has_operand test.IsNotNull t k c h =
      eqb-true (length (children_of t)) 1 (children_fit m t (ours IsNotNull) k c h)

  tested_by : (f : Function V O) (t x : Tree V O) → called t ≡ Some f
      → length (children_of t) ≡ 1 → slice_get (children_of t) 0 ≡ Some x
      → t ≡ call f (tree x no_trees)
  tested_by f (leaf l) x c n h = cc
  tested_by f (constant s) x c n h = cc
  tested_by f (call g no_trees) x c n h = absurd (omega arith)
  tested_by f (call g (tree a no_trees)) x c n h =
      let function : g ≡ f = cc in
      let operand : a ≡ x = cc in
      λ j. call (function j) (tree (operand j) no_trees)
  tested_by f (call g (tree a (tree b ts))) x c n h = absurd (omega arith)

  -- the node, from its operand
  pub is_tested : (which : NullTest) (t x : Tree V O) (k : LogicalType)
      → called t ≡ Some (ours (test_function which)) → tree_type m t ≡ Some k
      → slice_get (children_of t) 0 ≡ Some x → t ≡ tested which x
  is_tested which t x k c h operand =
      tested_by (ours (test_function which)) t x c (has_operand which t k c h) operand

  -- the result of Reduce for the test, from whether null is a value of the operand's type, the
  -- operand's validity, and the result within the operand
  abbrev pub by_operand : NullTest → Bool → Option (Tree V O) → Option (Tree V O)
      → Option (Tree V O)
  by_operand which n valid inside =
      if n then option_or (option_map (by_validity which) valid) inside
      else Some (truth_constant false (of_no_null which))

  module _ (r : Rules V O) where
    reduce_tested : (which : NullTest) (x : Tree V O)
        → by_operand which (is_nullable_tree m x) (validity m r x) (within m which x)
        ≡ reduce m r (tested which x)
    reduce_tested test.IsNull x = refl
    reduce_tested test.IsNotNull x = by (is_nullable_tree m x) (validity m r x)
      where
        by : (n : Bool) (v : Option (Tree V O))
            → by_operand test.IsNotNull n v (is_not_null_within m x)
            ≡ (if n then option_or v (is_not_null_within m x) else Some (truth_constant false true))
        by false v = refl
        by true None = refl
        by true (Some v) = refl

    -- the same for the node
    pub reduce_node : (which : NullTest) (t x : Tree V O) (k : LogicalType) (n : Bool)
        (v : Option (Tree V O)) → t ≡ tested which x → tree_type m x ≡ Some k
        → n ≡ is_nullable k → v ≡ validity m r x
        → by_operand which n v (within m which x) ≡ reduce m r t
    reduce_node which t x k n v is h null valid =
        let same : n ≡ is_nullable_tree m x = null ∙ sym (ap may_be_null h) in
        (λ j. by_operand which (same j) (valid j) (within m which x))
        ∙ reduce_tested which x
        ∙ sym (ap (reduce m r) is)

  pub type_of_split : (which : NullTest) (x y : Tree V O)
      → tree_type m x ≡ Some (bool_type false) → tree_type m y ≡ Some (bool_type false)
      → tree_type m (operated (joined_by which) x y) ≡ Some (bool_type false)
  type_of_split test.IsNull x y h k =
      type_of_two m (ours (Binary And)) x y (bool_type false) (bool_type false) h k
  type_of_split test.IsNotNull x y h k =
      type_of_two m (ours (Binary Or)) x y (bool_type false) (bool_type false) h k

  -- a call of And or Or
  boolean_function : (f : Function V O) (op : Operator) → boolean_in f ≡ Some op
      → (f ≡ ours (Binary op)) × (is_boolean op ≡ true)
  boolean_function (ours (Binary And)) op e =
      let is : And ≡ op = cc in ((λ j. ours (Binary (is j))), ap is_boolean (sym is))
  boolean_function (ours (Binary Or)) op e =
      let is : Or ≡ op = cc in ((λ j. ours (Binary (is j))), ap is_boolean (sym is))
  boolean_function f op e = cc

  pub boolean_node : (t : Tree V O) (op : Operator) → boolean_called t ≡ Some op
      → (called t ≡ Some (ours (Binary op))) × (is_boolean op ≡ true)
  boolean_node (leaf l) op e = cc
  boolean_node (constant s) op e = cc
  boolean_node (call f ts) op e =
      let p = boolean_function f op e in (ap Some p.0, p.1)

  -- the result of a test within it, from its operands
  operands_within : (which : NullTest) (op : Operator) (x y : Tree V O) → is_boolean op ≡ true
      → within_operands m which op x y ≡ within m which (operated op x y)
  operands_within test.IsNull And x y b = refl
  operands_within test.IsNull Or x y b = refl
  operands_within test.IsNull op x y b = cc
  operands_within test.IsNotNull And x y b = refl
  operands_within test.IsNotNull Or x y b = refl
  operands_within test.IsNotNull op x y b = cc

  pub within_node : (which : NullTest) (op : Operator) (t x y : Tree V O) → is_boolean op ≡ true
      → t ≡ operated op x y → within_operands m which op x y ≡ within m which t
  within_node which op t x y b is =
      operands_within which op x y b ∙ ap (within m which) (sym is)
