-- The result of Simplify is a rewrite.
use Rattle.std.proofs.Common.{◌≡◌, ℕ, Bool, true, List, [], ◌∷◌, Option, Some, None, refl}
use Rattle.std.proofs.Common.{sym, ap, ◌∙◌, subst, inl, inr}
use Rattle.std.specs.Prelude.{◌||◌, ◌&&◌, ◌⊎◌}
use Rattle.vortex_types.specs.LogicalTypes.{LogicalType, bool_type, is_nullable}
use Rattle.vortex_types.specs.TypeEquality.{alike_types}
use Rattle.vortex_types.specs.Values.{Value, null, is_null}
use Rattle.vortex_types.proofs.NullValues.{null_is}
use Rattle.vortex_columns.specs.ColumnView.{ColumnView}
use Rattle.vortex_operators.specs.Kleene.{decides}
use Rattle.vortex_operators.specs.declared.operators.Operator.{Operator}
use Rattle.vortex_operators.specs.declared.operators.Operator.TheVariants.{Eq, NotEq, Gt, Gte, Lt}
use Rattle.vortex_operators.specs.declared.operators.Operator.TheVariants.{Lte, And, Or}
use Rattle.vortex_operators.specs.declared.operators.CompareOperator.{CompareOperator}
use Rattle.vortex_operators.specs.declared.operators.CompareOperator.TheVariants as compare
use Rattle.vortex_operators.specs.Operators.{is_boolean, operator_of}
use Rattle.vortex_operators.specs.OperatorValues.{boolean_value, comparison_value, comparison_type}
use Rattle.vortex_interface.specs.Outcomes.{gives}
use Rattle.vortex_interface.specs.Meaning.{Meaning, Lawful}
use Rattle.vortex_interface.specs.Arguments.{or_either, null_of_either}
use Rattle.vortex_interface.specs.Shipped.{Shipped, Binary}
use Rattle.vortex_interface.specs.Shipped.BinaryFunction.{compared_type, operator_type}
use Rattle.vortex_interface.specs.Shipped.BinaryFunction.{null_compared}
use Rattle.vortex_interface.specs.Functions.{ours, custom}
use Rattle.vortex_interface.specs.Trees.{Tree, constant, call, Trees, no_trees, tree}
use Rattle.vortex_interface.specs.Eval.{types_or_none, tree_type, tree_types, eval}
use Rattle.vortex_interface.specs.ComparisonTrees.{operated, compared, compared_means}
use Rattle.vortex_interface.specs.Rules.{Rules, constant_truth, is_nullable_tree}
use Rattle.vortex_interface.specs.SimplifyRules.{is_null_literal, simplify_comparison}
use Rattle.vortex_interface.specs.SimplifyRules.{decided, left_of_nulls, undecided, simplify_operands}
use Rattle.vortex_interface.specs.SimplifyRules.{simplify_boolean, simplify_operator}
use Rattle.vortex_interface.specs.SimplifyRules.{simplify_shipped, simplify}
use Rattle.vortex_interface.specs.Rewrites.{Rewrites, LawfulRules}
use Rattle.vortex_interface.proofs.TypedCalls.{two_types, typed_call, two_values}
use Rattle.vortex_interface.proofs.KleeneConstants.{of_boolean}
use Rattle.vortex_interface.proofs.BooleanCalls.{IsBoolCall, bool_call, bool_values, asks_left}
use Rattle.vortex_interface.proofs.BooleanCalls.{AreOperands, left_first, right_first}
use Rattle.vortex_interface.proofs.BooleanCalls.{decided_sound, undecided_sound}
use Rattle.vortex_interface.proofs.RuleAnswers.{first_there, answer_if, answer_unless, both_true}
use Rattle.vortex_interface.proofs.RuleAnswers.{either_true}

-- the type of a comparison of accepted types
compared_is : (t u r : LogicalType) → compared_type (t ∷ u ∷ []) ≡ Some r
    → bool_type (is_nullable t || is_nullable u) ≡ r
compared_is t u r h = (answer_if (alike_types t u) (comparison_type t u) r h).1

comparison_accepts : (op : CompareOperator) (ts : List LogicalType)
    → operator_type (operator_of op) ts ≡ compared_type ts
comparison_accepts compare.Eq ts = refl
comparison_accepts op ts = refl

null_beside : (op : CompareOperator) (v w : Value) → (v ≡ null) ⊎ (w ≡ null)
    → comparison_value op v w ≡ null
null_beside op = null_of_either (comparison_value op) (λ w. refl) (null_compared op)

module _ {V O : Type 0} (m : Meaning V O) where
  null_literal_type : (x : Tree V O) (t : LogicalType) → is_null_literal x ≡ true
      → tree_type m x ≡ Some t → is_nullable t ≡ true
  null_literal_type (constant s) t h e =
      let is : s.dtype ≡ t = cc in
      ap is_nullable (sym is) ∙ (both_true (is_null s.value) (is_nullable s.dtype) h).1
  null_literal_type x t h e = cc

  null_literal_value : (cs : List ColumnView) (i : ℕ) (x : Tree V O) → is_null_literal x ≡ true
      → eval m cs x i ≡ gives null
  null_literal_value cs i (constant s) h =
      ap gives (null_is s.value (both_true (is_null s.value) (is_nullable s.dtype) h).0)
  null_literal_value cs i x h = cc

  null_value : (cs : List ColumnView) (i : ℕ) (x : Tree V O) (v : Value)
      → is_null_literal x ≡ true → eval m cs x i ≡ gives v → v ≡ null
  null_value cs i x v h e =
      let same : gives v ≡ gives null = sym e ∙ null_literal_value cs i x h in
      cc

  -- a comparison with a null literal
  null_comparison : (op : CompareOperator) (x y : Tree V O) (t : LogicalType)
      → (is_null_literal x ≡ true) ⊎ (is_null_literal y ≡ true)
      → tree_type m (compared op x y) ≡ Some t
      → Rewrites m (compared op x y) (constant (record { dtype = bool_type true; value = null }))
  null_comparison op x y t nulls h = record {
    dtype =
        let c = typed_call m (ours (Binary (operator_of op))) (tree x (tree y no_trees)) t h in
        let two = two_types (tree_type m x) (tree_type m y) c.types c.children in
        let returns = sym (comparison_accepts op (two.0 ∷ two.1 ∷ []))
        ∙ ap (operator_type (operator_of op)) two.4 ∙ c.returns in
        let is = compared_is two.0 two.1 t returns in
        let null_here = types two.0 two.1 two.2 two.3 nulls in
        let nullable = or_either (is_nullable two.0) (is_nullable two.1) null_here in
        sym (h ∙ ap Some (sym is) ∙ ap (λ n. Some (bool_type n)) nullable);
    asks = record {
      leaves = λ at name k is. absurd is;
      rows = λ cs i k. refl;
      places = λ k. tt;
    };
    value = λ cs i w p e.
        let q = two_values m cs i (ours (Binary (operator_of op))) x y w e in
        let ts = types_or_none (tree_types m (tree x (tree y no_trees))) in
        let none = null_beside op q.0 q.1 (values cs i q.0 q.1 q.2 q.3 nulls) in
        sym (ap gives none) ∙ sym (compared_means op ts q.0 q.1) ∙ q.4;
  }
    where
      types : (k l : LogicalType) → tree_type m x ≡ Some k → tree_type m y ≡ Some l
          → (is_null_literal x ≡ true) ⊎ (is_null_literal y ≡ true)
          → (is_nullable k ≡ true) ⊎ (is_nullable l ≡ true)
      types k l a b (inl n) = inl (null_literal_type x k n a)
      types k l a b (inr n) = inr (null_literal_type y l n b)

      values : (cs : List ColumnView) (i : ℕ) (v z : Value)
          → eval m cs x i ≡ gives v → eval m cs y i ≡ gives z
          → (is_null_literal x ≡ true) ⊎ (is_null_literal y ≡ true) → (v ≡ null) ⊎ (z ≡ null)
      values cs i v z a b (inl n) = inl (null_value cs i x v n a)
      values cs i v z a b (inr n) = inr (null_value cs i y z n b)

  comparison_sound : (op : CompareOperator) (x y u : Tree V O) (t : LogicalType)
      → tree_type m (compared op x y) ≡ Some t → simplify_comparison x y ≡ Some u
      → Rewrites m (compared op x y) u
  comparison_sound op x y u t h e =
      let a = answer_if (is_null_literal x || is_null_literal y) _ u e in
      let nulls = either_true (is_null_literal x) (is_null_literal y) a.0 in
      subst (Rewrites m (compared op x y)) a.1 (null_comparison op x y t nulls h)

  null_kleene : (op : Operator) → is_boolean op ≡ true → boolean_value op null null ≡ null
  null_kleene op h = of_boolean (λ o. boolean_value o null null ≡ null) refl refl op h

  module _ (lawful : Lawful m) (op : Operator) (b : is_boolean op ≡ true) where
    module _ (node x y : Tree V O) (n : Bool) (c : AreOperands m op node n x y) where
      decided_by : (o : Option Bool) (u : Tree V O) → constant_truth x ≡ o
          → decided op n o ≡ Some u → Rewrites m node u
      decided_by None u h e = cc
      decided_by (Some a) u h e =
          let d = answer_if (decides op a) _ u e in
          subst (Rewrites m node) d.1 (decided_sound m op b node x y n a c h d.0)

      undecided_by : (o : Option Bool) (u : Tree V O) → constant_truth x ≡ o
          → undecided m op n o y ≡ Some u → Rewrites m node u
      undecided_by None u h e = cc
      undecided_by (Some a) u h e =
          let d = answer_unless (decides op a) _ u e in
          subst (Rewrites m node) d.1 (undecided_sound m op b node x y n a c h lawful d.0)

    module _ (x y : Tree V O) (n : Bool) (c : IsBoolCall m op x y n) where
      -- two null literals
      nulls_left : is_null_literal x ≡ true → is_null_literal y ≡ true
          → Rewrites m (operated op x y) x
      nulls_left h k = record {
        dtype =
            let wide = null_literal_type x (bool_type c.left_null) h c.left in
            let either = sym (or_either c.left_null c.right_null (inl wide)) ∙ c.either in
            c.left ∙ ap (λ a. Some (bool_type a)) (wide ∙ either) ∙ sym c.node;
        asks = asks_left m op x y;
        value = λ cs i w p e.
            let q = bool_values m cs i op x y w b e in
            let left = null_value cs i x q.0 h q.2 in
            let right = null_value cs i y q.1 k q.3 in
            let value = (λ j. boolean_value op (left j) (right j)) ∙ null_kleene op b in
            q.2 ∙ ap gives (left ∙ sym value ∙ q.4);
      }

      nulls_by : (u : Tree V O) → left_of_nulls x y ≡ Some u → Rewrites m (operated op x y) u
      nulls_by u e =
          let d = answer_if (is_null_literal x && is_null_literal y) x u e in
          let both = both_true (is_null_literal x) (is_null_literal y) d.0 in
          subst (Rewrites m (operated op x y)) d.1 (nulls_left both.0 both.1)

      operands_sound : (u : Tree V O) → simplify_operands m op n x y ≡ Some u
          → Rewrites m (operated op x y) u
      operands_sound u e =
          let node = operated op x y in
          let sound = Rewrites m node u in
          let l = left_first m op b x y n c in
          let r = right_first m op b x y n c in
          first_there _ _ u sound e (decided_by node x y n l (constant_truth x) u refl)
          (λ e. first_there _ _ u sound e (decided_by node y x n r (constant_truth y) u refl)
          (λ e. first_there _ _ u sound e (undecided_by node x y n l (constant_truth x) u refl)
          (λ e. first_there _ _ u sound e (undecided_by node y x n r (constant_truth y) u refl)
          (nulls_by u))))

  module _ (lawful : Lawful m) where
    boolean_sound : (op : Operator) (x y u : Tree V O) (t : LogicalType) → is_boolean op ≡ true
        → tree_type m (operated op x y) ≡ Some t → simplify_boolean m op x y ≡ Some u
        → Rewrites m (operated op x y) u
    boolean_sound op x y u t b h e =
        operands_sound lawful op b x y (is_nullable_tree m (operated op x y))
        (bool_call m op x y t b h) u e

    operator_sound : (op : Operator) (x y u : Tree V O) (t : LogicalType)
        → tree_type m (operated op x y) ≡ Some t → simplify_operator m op x y ≡ Some u
        → Rewrites m (operated op x y) u
    operator_sound And x y u t h e = boolean_sound And x y u t refl h e
    operator_sound Or x y u t h e = boolean_sound Or x y u t refl h e
    operator_sound Eq x y u t h e = comparison_sound compare.Eq x y u t h e
    operator_sound NotEq x y u t h e = comparison_sound compare.NotEq x y u t h e
    operator_sound Gt x y u t h e = comparison_sound compare.Gt x y u t h e
    operator_sound Gte x y u t h e = comparison_sound compare.Gte x y u t h e
    operator_sound Lt x y u t h e = comparison_sound compare.Lt x y u t h e
    operator_sound Lte x y u t h e = comparison_sound compare.Lte x y u t h e
    operator_sound op x y u t h e = cc

    shipped_sound : (s : Shipped) (ts : Trees V O) (u : Tree V O) (t : LogicalType)
        → tree_type m (call (ours s) ts) ≡ Some t → simplify_shipped m s ts ≡ Some u
        → Rewrites m (call (ours s) ts) u
    shipped_sound (Binary op) (tree x (tree y no_trees)) u t h e = operator_sound op x y u t h e
    shipped_sound s ts u t h e = cc

    -- for a well-typed tree the result of Simplify keeps its type and its values
    pub simplify_sound : (r : Rules V O) → LawfulRules m r → (x u : Tree V O) (t : LogicalType)
        → tree_type m x ≡ Some t → simplify m r x ≡ Some u → Rewrites m x u
    simplify_sound r rules (call (ours s) ts) u t h e = shipped_sound s ts u t h e
    simplify_sound r rules (call (custom f o) ts) u t h e = rules.simplify f o ts t u h e
    simplify_sound r rules x u t h e = cc
