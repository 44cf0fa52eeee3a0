-- The result of Reduce is a rewrite.
use Rattle.std.proofs.Common.{◌≡◌, Bool, true, false, Option, Some, None, refl, sym, ap, ◌∙◌, subst}
use Rattle.std.specs.Prelude.{if◌then◌else◌}
use Rattle.vortex_types.specs.LogicalTypes.{LogicalType, bool_type}
use Rattle.vortex_types.specs.Values.{truth, truth_or_null}
use Rattle.vortex_types.specs.Typing.{HasType}
use Rattle.vortex_operators.specs.declared.operators.Operator.{Operator}
use Rattle.vortex_operators.specs.declared.operators.Operator.TheVariants.{And, Or}
use Rattle.vortex_operators.specs.Operators.{is_boolean}
use Rattle.vortex_operators.specs.OperatorValues.{boolean_value}
use Rattle.vortex_operators.specs.Kleene.{kleene, decides}
use Rattle.vortex_operators.proofs.KleeneNulls.{kleene_allowed}
use Rattle.vortex_interface.specs.Outcomes.{gives}
use Rattle.vortex_interface.specs.Meaning.{Meaning, Lawful}
use Rattle.vortex_interface.specs.Arguments.{has_bool}
use Rattle.vortex_interface.specs.Shipped.{Shipped, Binary, NullTest, IsNull, IsNotNull}
use Rattle.vortex_interface.specs.Functions.{ours, custom}
use Rattle.vortex_interface.specs.Trees.{Tree, call, Trees, no_trees, tree}
use Rattle.vortex_interface.specs.Eval.{tree_type}
use Rattle.vortex_interface.specs.ComparisonTrees.{negated, operated}
use Rattle.vortex_interface.specs.Rules.{Rules, truth_constant, is_null_of, is_not_null_of}
use Rattle.vortex_interface.specs.Rules.{constant_truth, may_be_null, is_nullable_tree}
use Rattle.vortex_interface.specs.Rules.{widened}
use Rattle.vortex_interface.specs.ValidityRules.{validity}
use Rattle.vortex_interface.specs.ReduceRules.{table_constant}
use Rattle.vortex_interface.specs.ReduceRules.{reduce_is_null, reduce_is_not_null, of_constants}
use Rattle.vortex_interface.specs.ReduceRules.{reduce_boolean, reduce_operator, reduce_shipped}
use Rattle.vortex_interface.specs.ReduceRules.{reduce}
use Rattle.vortex_interface.specs.Rewrites.{Rewrites, LawfulRules}
use Rattle.vortex_interface.proofs.TypedCalls.{only_child_type}
use Rattle.vortex_interface.proofs.BooleanCalls.{IsBoolCall, bool_call, bool_values, constant_given}
use Rattle.vortex_interface.proofs.BooleanCalls.{AreOperands, left_first, right_first}
use Rattle.vortex_interface.proofs.BooleanCalls.{decided_sound, undecided_sound}
use Rattle.vortex_interface.proofs.Validities.{validity_sound}
use Rattle.vortex_interface.proofs.NullTestRules.{is_null_within_sound, is_not_null_within_sound}
use Rattle.vortex_interface.proofs.NullTestRules.{never_null_test}
use Rattle.vortex_interface.proofs.NullTestRules.{is_null_by_validity, is_not_null_by_validity}
use Rattle.vortex_interface.proofs.RuleAnswers.{some_is, gives_is, either_answer, mapped}

table_typed : (op : Operator) (n a b : Bool) → is_boolean op ≡ true
    → HasType (bool_type n) (truth_or_null (kleene op (Some a) (Some b)))
table_typed op n a b h =
    has_bool n (kleene op (Some a) (Some b)) (kleene_allowed op false n (Some a) (Some b) h tt tt)

module _ {V O : Type 0} (m : Meaning V O) where
  -- two constants
  both_constant : (op : Operator) (x y : Tree V O) (n a z : Bool) → is_boolean op ≡ true
      → IsBoolCall m op x y n → constant_truth x ≡ Some a → constant_truth y ≡ Some z
      → Rewrites m (operated op x y) (table_constant op n (Some a) (Some z))
  both_constant op x y n a z b c h k = record {
    dtype = sym c.node;
    asks = record {
      leaves = λ at name k p. absurd p;
      rows = λ cs i p. table_typed op n a z b;
      places = λ p. tt;
    };
    value = λ cs i w p e.
        let q = bool_values m cs i op x y w b e in
        let left = gives_is (truth a) q.0 (sym (constant_given m cs i x a h) ∙ q.2) in
        let right = gives_is (truth z) q.1 (sym (constant_given m cs i y z k) ∙ q.3) in
        ap gives ((λ j. boolean_value op (left j) (right j)) ∙ q.4);
  }

  module _ (lawful : Lawful m) where
    module _ (op : Operator) (b : is_boolean op ≡ true) where
      beside_sound : (node x y : Tree V O) (n a d : Bool) → AreOperands m op node n x y
          → decides op a ≡ d → constant_truth x ≡ Some a
          → Rewrites m node (if d then truth_constant n a else widened m n y)
      beside_sound node x y n a true c e h = decided_sound m op b node x y n a c h e
      beside_sound node x y n a false c e h = undecided_sound m op b node x y n a c h lawful e

      constants_sound : (x y : Tree V O) (n : Bool) → IsBoolCall m op x y n → (l r : Option Bool)
          (u : Tree V O) → constant_truth x ≡ l → constant_truth y ≡ r
          → of_constants m op n x y l r ≡ Some u → Rewrites m (operated op x y) u
      constants_sound x y n c (Some a) (Some z) u h k e =
          subst (Rewrites m (operated op x y)) (some_is _ u e) (both_constant op x y n a z b c h k)
      constants_sound x y n c (Some a) None u h k e =
          let one = left_first m op b x y n c in
          subst (Rewrites m (operated op x y)) (some_is _ u e)
          (beside_sound (operated op x y) x y n a (decides op a) one refl h)
      constants_sound x y n c None (Some z) u h k e =
          let one = right_first m op b x y n c in
          subst (Rewrites m (operated op x y)) (some_is _ u e)
          (beside_sound (operated op x y) y x n z (decides op z) one refl k)
      constants_sound x y n c None None u h k e = cc

    boolean_sound : (op : Operator) (ts : Trees V O) (u : Tree V O) (t : LogicalType)
        → is_boolean op ≡ true → tree_type m (call (ours (Binary op)) ts) ≡ Some t
        → reduce_boolean m op ts ≡ Some u → Rewrites m (call (ours (Binary op)) ts) u
    boolean_sound op (tree x (tree y no_trees)) u t b h e =
        constants_sound op b x y (is_nullable_tree m (operated op x y)) (bool_call m op x y t b h)
        (constant_truth x) (constant_truth y) u refl refl e
    boolean_sound op ts u t b h e = cc

    operator_sound : (op : Operator) (ts : Trees V O) (u : Tree V O) (t : LogicalType)
        → tree_type m (call (ours (Binary op)) ts) ≡ Some t → reduce_operator m op ts ≡ Some u
        → Rewrites m (call (ours (Binary op)) ts) u
    operator_sound And ts u t h e = boolean_sound And ts u t refl h e
    operator_sound Or ts u t h e = boolean_sound Or ts u t refl h e
    operator_sound op ts u t h e = cc

    module _ (r : Rules V O) (rules : LawfulRules m r) where
      is_null_sound : (ts : Trees V O) (u : Tree V O) (t : LogicalType)
          → tree_type m (call (ours IsNull) ts) ≡ Some t → reduce_is_null m r ts ≡ Some u
          → Rewrites m (call (ours IsNull) ts) u
      is_null_sound (tree x no_trees) u t h e =
          let k = only_child_type m (ours IsNull) x t h in
          either_answer (is_nullable_tree m x) _ u _ _ (Rewrites m (is_null_of x)) e
          (λ p. never_null_test m false lawful x k.0 k.1 (sym (ap may_be_null k.1) ∙ p))
          (λ g.
          let a = mapped negated (validity m r x) u g in
          subst (Rewrites m (is_null_of x)) a.2
          (is_null_by_validity m x a.0 k.0 k.1
          (validity_sound m lawful r rules x a.0 k.0 k.1 a.1)))
          (is_null_within_sound m lawful x u k.0 k.1)
      is_null_sound ts u t h e = cc

      is_not_null_sound : (ts : Trees V O) (u : Tree V O) (t : LogicalType)
          → tree_type m (call (ours IsNotNull) ts) ≡ Some t → reduce_is_not_null m r ts ≡ Some u
          → Rewrites m (call (ours IsNotNull) ts) u
      is_not_null_sound (tree x no_trees) u t h e =
          let k = only_child_type m (ours IsNotNull) x t h in
          either_answer (is_nullable_tree m x) _ u _ _ (Rewrites m (is_not_null_of x)) e
          (λ p. never_null_test m true lawful x k.0 k.1 (sym (ap may_be_null k.1) ∙ p))
          (λ g.
          is_not_null_by_validity m x u k.0 k.1
          (validity_sound m lawful r rules x u k.0 k.1 g))
          (is_not_null_within_sound m lawful x u k.0 k.1)
      is_not_null_sound ts u t h e = cc

      shipped_sound : (s : Shipped) (ts : Trees V O) (u : Tree V O) (t : LogicalType)
          → tree_type m (call (ours s) ts) ≡ Some t → reduce_shipped m r s ts ≡ Some u
          → Rewrites m (call (ours s) ts) u
      shipped_sound (Binary op) ts u t h e = operator_sound op ts u t h e
      shipped_sound (NullTest false) ts u t h e = is_null_sound ts u t h e
      shipped_sound (NullTest true) ts u t h e = is_not_null_sound ts u t h e
      shipped_sound s ts u t h e = cc

    -- for a well-typed tree the result of Reduce keeps its type and its values
    pub reduce_sound : (r : Rules V O) → LawfulRules m r → (x u : Tree V O) (t : LogicalType)
        → tree_type m x ≡ Some t → reduce m r x ≡ Some u → Rewrites m x u
    reduce_sound r rules (call (ours s) ts) u t h e = shipped_sound r rules s ts u t h e
    reduce_sound r rules (call (custom f o) ts) u t h e = rules.reduce f o ts t u h e
    reduce_sound r rules x u t h e = cc
