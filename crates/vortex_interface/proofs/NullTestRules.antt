-- Null tests that need not compute their child: of a child that is never null, one whose validity
-- is a tree, and And or Or with one nullable operand.
use Rattle.std.proofs.Common.{◌≡◌, ℕ, Bool, true, false, not, List, [], ◌∷◌, Option, Some}
use Rattle.std.proofs.Common.{refl, sym, ap, ◌∙◌, subst, inl, ⊎_elim, arith}
use Rattle.std.specs.Option.{option_map}
use Rattle.vortex_types.specs.LogicalTypes.{LogicalType, bool_type, is_nullable}
use Rattle.vortex_types.specs.Values.{Value, truth, is_null, truth_of, truth_or_null}
use Rattle.vortex_columns.specs.ColumnView.{ColumnView}
use Rattle.vortex_operators.specs.declared.operators.Operator.{Operator}
use Rattle.vortex_operators.specs.declared.operators.Operator.TheVariants.{And, Or}
use Rattle.vortex_operators.specs.Operators.{is_boolean}
use Rattle.vortex_operators.specs.OperatorValues.{boolean_value}
use Rattle.vortex_operators.specs.Kleene.{kleene}
use Rattle.vortex_interface.specs.Outcomes.{gives}
use Rattle.vortex_interface.specs.Meaning.{Meaning, Lawful}
use Rattle.vortex_interface.specs.Shipped.{Binary, Not, NullTest}
use Rattle.vortex_interface.specs.Shipped.NullTestFunctions.{null_test_value}
use Rattle.vortex_interface.specs.Functions.{ours, call_type}
use Rattle.vortex_interface.specs.Trees.{Tree, call, no_trees, tree}
use Rattle.vortex_interface.specs.Eval.{tree_type, eval}
use Rattle.vortex_interface.specs.ComparisonTrees.{negated, operated}
use Rattle.vortex_interface.specs.Rules.{truth_constant, is_null_of, is_not_null_of, may_be_null}
use Rattle.vortex_interface.specs.Rules.{is_nullable_tree}
use Rattle.vortex_interface.specs.ReduceRules.{nullable_first, by_nullability, is_null_within}
use Rattle.vortex_interface.specs.ReduceRules.{is_not_null_within}
use Rattle.vortex_interface.specs.Rewrites.{HasRow, AsksNoMore, Rewrites, IsValidityOf}
use Rattle.vortex_interface.proofs.TypedCalls.{type_of_one, type_of_two, one_value, eval_one}
use Rattle.vortex_interface.proofs.TypedValues.{value_typed, never_null}
use Rattle.vortex_interface.proofs.Leaves.{in_one, in_two}
use Rattle.vortex_interface.proofs.Rewriting.{asks_same, asks_nothing}
use Rattle.vortex_interface.proofs.KleeneConstants.{of_boolean, truth_back, truth_in}
use Rattle.vortex_interface.proofs.BooleanCalls.{bool_call, AreOperands, left_first, right_first}
use Rattle.vortex_interface.proofs.BooleanCalls.{eval_bool}
use Rattle.vortex_interface.proofs.RuleAnswers.{mapped, not_not}

-- a null test of And or Or is `join` of the test of the nullable operand and the other one, negated
abbrev SaidBy : Operator → Bool → Operator → (Bool → Bool) → Type 0
SaidBy op test join turn =
    (a : Option Bool) (c : Bool)
    → boolean_value join (truth (null_test_value test (truth_or_null a))) (truth (turn c))
    ≡ truth (null_test_value test (truth_or_null (kleene op a (Some c))))

and_is_null : SaidBy And false And (λ c. c)
and_is_null a c = grind arith

or_is_null : SaidBy Or false And not
or_is_null a c = grind arith

and_is_not_null : SaidBy And true Or not
and_is_not_null a c = grind arith

or_is_not_null : SaidBy Or true Or (λ c. c)
or_is_not_null a c = grind arith

module _ {V O : Type 0} (m : Meaning V O) where
  -- And or Or of a nullable operand x and another, y, that is not, in either order
  record IsSplit (op : Operator) (node x y : Tree V O) : Type 0 where
    pub nullable : tree_type m x ≡ Some (bool_type true)
    pub other : tree_type m y ≡ Some (bool_type false)
    pub asks_nullable : AsksNoMore node x
    pub asks_other : AsksNoMore node y
    pub values : (cs : List ColumnView) (i : ℕ) (w : Value) → HasRow cs i node
        → eval m cs node i ≡ gives w
        → (a : Option Bool) × (c : Bool) × (eval m cs x i ≡ gives (truth_or_null a))
        × (eval m cs y i ≡ gives (truth c)) × (truth_or_null (kleene op a (Some c)) ≡ w)

  module _ (lawful : Lawful m) where
    split_by : (op : Operator) (node : Tree V O) (n : Bool) (x y : Tree V O)
        → AreOperands m op node n x y → tree_type m x ≡ Some (bool_type true)
        → tree_type m y ≡ Some (bool_type false) → IsSplit op node x y
    split_by op node n x y c h k = record {
      nullable = h;
      other = k;
      asks_nullable = c.asks_one;
      asks_other = c.asks_other;
      values = λ cs i w p e.
          let q = c.values cs i w e in
          let rows = c.asks_one.rows cs i p in
          let others = c.asks_other.rows cs i p in
          let typed = value_typed m lawful cs i x (bool_type true) q.0 h rows q.2 in
          let back = truth_back true q.0 typed in
          let z = truth_in q.1 (value_typed m lawful cs i y (bool_type false) q.1 k others q.3) in (
            truth_of q.0,
            z.0,
            q.2 ∙ ap gives (sym back),
            q.3 ∙ ap gives z.1,
            ap (boolean_value op q.0) (sym z.1) ∙ q.4,
          );
    }

    -- the operands that the rules read
    split_of : (op : Operator) (x y : Tree V O) (t : LogicalType) (p : Tree V O × Tree V O)
        → is_boolean op ≡ true → tree_type m (operated op x y) ≡ Some t
        → by_nullability m x y ≡ Some p → IsSplit op (operated op x y) p.0 p.1
    split_of op x y t p b h e =
        let c = bool_call m op x y t b h in
        let right = ap (λ z. nullable_first c.left_null (may_be_null z) x y) (sym c.right) in
        let left = ap (λ z. nullable_first (may_be_null z) (is_nullable_tree m y) x y) (sym c.left)
        in
        by c.left_null c.right_null c.left c.right (right ∙ left ∙ e)
      where
        Split : Tree V O × Tree V O → Type 0
        Split z = IsSplit op (operated op x y) z.0 z.1

        by : (n k : Bool) → tree_type m x ≡ Some (bool_type n) → tree_type m y ≡ Some (bool_type k)
            → nullable_first n k x y ≡ Some p → Split p
        by true false f g q =
            let is : (x, y) ≡ p = cc in
            let c = left_first m op b x y _ (bool_call m op x y t b h) in
            subst Split is (split_by op (operated op x y) _ x y c f g)
        by false true f g q =
            let is : (y, x) ≡ p = cc in
            let c = right_first m op b x y _ (bool_call m op x y t b h) in
            subst Split is (split_by op (operated op x y) _ y x c g f)
        by true true f g q = cc
        by false false f g q = cc

  -- whether a tree is null, or, where `test` is true, whether it is not
  module _ (test : Bool) where
    abbrev tested : Tree V O → Tree V O
    tested x = call (ours (NullTest test)) (tree x no_trees)

    abbrev says : Value → Bool
    says = null_test_value test

    test_type : (x : Tree V O) (t : LogicalType) → tree_type m x ≡ Some t
        → tree_type m (tested x) ≡ Some (bool_type false)
    test_type x t h = type_of_one m (ours (NullTest test)) x t h

    test_value : (cs : List ColumnView) (i : ℕ) (x : Tree V O) (w : Value)
        → eval m cs (tested x) i ≡ gives w
        → (v : Value) × (eval m cs x i ≡ gives v) × (gives (truth (says v)) ≡ gives w)
    test_value cs i x w e = one_value m cs i (ours (NullTest test)) x w e

    -- a child for whose values the test is constant
    constant_test : (x : Tree V O) (t : LogicalType) (b : Bool) → tree_type m x ≡ Some t
        → ((cs : List ColumnView) (i : ℕ) (v : Value) → HasRow cs i x → eval m cs x i ≡ gives v
        → says v ≡ b)
        → Rewrites m (tested x) (truth_constant false b)
    constant_test x t b h same = record {
      dtype = sym (test_type x t h);
      asks = asks_nothing (tested x) false b;
      value = λ cs i w p e.
          let a = test_value cs i x w e in
          ap (λ z. gives (truth z)) (sym (same cs i a.0 p.0 a.1)) ∙ a.2;
    }

    -- And or Or of two Bool without null is one
    abbrev Joined : Operator → Type 0
    Joined op =
        call_type m (ours (Binary op)) (bool_type false ∷ bool_type false ∷ [])
        ≡ Some (bool_type false)

    -- And or Or, from its operands
    split_test : (op join : Operator) (turn : Bool → Bool) (node x y other : Tree V O)
        (t : LogicalType) → is_boolean join ≡ true → tree_type m node ≡ Some t
        → IsSplit op node x y → tree_type m other ≡ Some (bool_type false) → AsksNoMore y other
        → ((cs : List ColumnView) (i : ℕ) (c : Bool) → eval m cs y i ≡ gives (truth c)
        → eval m cs other i ≡ gives (truth (turn c)))
        → SaidBy op test join turn
        → Rewrites m (tested node) (operated join (tested x) other)
    split_test op join turn node x y other t b h s typed asks turned said = record {
      dtype =
          type_of_two m (ours (Binary join)) (tested x) other (bool_type false) (bool_type false)
          (test_type x (bool_type true) s.nullable) typed
          ∙ of_boolean Joined refl refl join b ∙ sym (test_type node t h);
      asks = record {
        leaves = λ p name k h.
            inl
            (⊎_elim (λ left. s.asks_nullable.leaves p name k (in_one left))
            (λ right. s.asks_other.leaves p name k (asks.leaves p name k right))
            (in_two h));
        rows = λ cs i k.
            let right = asks.rows cs i (s.asks_other.rows cs i k.0) in
            ((s.asks_nullable.rows cs i k.0, tt), (right, tt));
        places = λ k.
            let right = asks.places (s.asks_other.places k.0) in
            ((s.asks_nullable.places k.0, tt), (right, tt));
      };
      value = λ cs i w p e.
          let a = test_value cs i node w e in
          let q = s.values cs i a.0 p.0 a.1 in
          let left = eval_one m cs i (ours (NullTest test)) x (truth_or_null q.0) q.2 in
          let right = turned cs i q.1 q.3 in
          eval_bool m cs i join (tested x) other _ _ b left right
          ∙ ap gives (said q.0 q.1) ∙ ap (λ v. gives (truth (says v))) q.4 ∙ a.2;
    }

    -- the other operand, unchanged and negated
    module _ (lawful : Lawful m) (op join : Operator) (b : is_boolean op ≡ true)
        (j : is_boolean join ≡ true) (x y : Tree V O) (t : LogicalType)
        (h : tree_type m (operated op x y) ≡ Some t) (u : Tree V O) where
      within : SaidBy op test join (λ c. c)
          → option_map (λ p. operated join (tested p.0) p.1) (by_nullability m x y) ≡ Some u
          → Rewrites m (tested (operated op x y)) u
      within said e =
          let a = mapped _ (by_nullability m x y) u e in
          let s = split_of lawful op x y t a.0 b h a.1 in
          subst (Rewrites m (tested (operated op x y))) a.2
          (split_test op join (λ c. c) (operated op x y) a.0.0 a.0.1 a.0.1 t j h s s.other
          (asks_same a.0.1) (λ cs i c k. k) said)

      within_negated : SaidBy op test join not
          → option_map (λ p. operated join (tested p.0) (negated p.1)) (by_nullability m x y)
          ≡ Some u
          → Rewrites m (tested (operated op x y)) u
      within_negated said e =
          let a = mapped _ (by_nullability m x y) u e in
          let s = split_of lawful op x y t a.0 b h a.1 in
          subst (Rewrites m (tested (operated op x y))) a.2
          (split_test op join not (operated op x y) a.0.0 a.0.1 (negated a.0.1) t j h s
          (type_of_one m (ours Not) a.0.1 (bool_type false) s.other)
          (record {
            leaves = λ q name k a. in_one a;
            rows = λ cs i k. (k, tt);
            places = λ k. (k, tt);
          })
          (λ cs i c k. eval_one m cs i (ours Not) a.0.1 (truth c) k) said)

    -- of a child that is never null
    pub never_null_test : Lawful m → (x : Tree V O) (t : LogicalType) → tree_type m x ≡ Some t
        → is_nullable t ≡ false → Rewrites m (tested x) (truth_constant false test)
    never_null_test lawful x t h n =
        constant_test x t test h
        (λ cs i v p e. by test v (never_null m lawful cs i x t v h n p e))
      where
        by : (b : Bool) (v : Value) → is_null v ≡ false → null_test_value b v ≡ b
        by false v e = e
        by true v e = ap not e

  module _ (lawful : Lawful m) where
    pub is_null_within_sound : (x u : Tree V O) (t : LogicalType) → tree_type m x ≡ Some t
        → is_null_within m x ≡ Some u → Rewrites m (is_null_of x) u
    is_null_within_sound (call (ours (Binary And)) (tree x (tree y no_trees))) u t h e =
        within false lawful And And refl refl x y t h u and_is_null e
    is_null_within_sound (call (ours (Binary Or)) (tree x (tree y no_trees))) u t h e =
        within_negated false lawful Or And refl refl x y t h u or_is_null e
    is_null_within_sound x u t h e = cc

    pub is_not_null_within_sound : (x u : Tree V O) (t : LogicalType) → tree_type m x ≡ Some t
        → is_not_null_within m x ≡ Some u → Rewrites m (is_not_null_of x) u
    is_not_null_within_sound (call (ours (Binary And)) (tree x (tree y no_trees))) u t h e =
        within_negated true lawful And Or refl refl x y t h u and_is_not_null e
    is_not_null_within_sound (call (ours (Binary Or)) (tree x (tree y no_trees))) u t h e =
        within true lawful Or Or refl refl x y t h u or_is_not_null e
    is_not_null_within_sound x u t h e = cc

  -- of a child whose validity is a tree
  pub is_null_by_validity : (x v : Tree V O) (t : LogicalType) → tree_type m x ≡ Some t
      → IsValidityOf m x v → Rewrites m (is_null_of x) (negated v)
  is_null_by_validity x v t h valid = record {
    dtype =
        type_of_one m (ours Not) v (bool_type false) valid.dtype
        ∙ sym (test_type false x t h);
    asks = record {
      leaves = λ p name k h. inl (valid.asks.leaves p name k (in_one h));
      rows = λ cs i k. (valid.asks.rows cs i k.0, tt);
      places = λ k. (valid.asks.places k.0, tt);
    };
    value = λ cs i w p e.
        let a = test_value false cs i x w e in
        let said = valid.value cs i a.0 p.0 a.1 in
        eval_one m cs i (ours Not) v (truth (not (is_null a.0))) said
        ∙ ap (λ b. gives (truth b)) (not_not (is_null a.0)) ∙ a.2;
  }

  pub is_not_null_by_validity : (x v : Tree V O) (t : LogicalType) → tree_type m x ≡ Some t
      → IsValidityOf m x v → Rewrites m (is_not_null_of x) v
  is_not_null_by_validity x v t h valid = record {
    dtype = valid.dtype ∙ sym (test_type true x t h);
    asks = record {
      leaves = λ p name k h. inl (valid.asks.leaves p name k h);
      rows = λ cs i k. valid.asks.rows cs i k.0;
      places = λ k. valid.asks.places k.0;
    };
    value = λ cs i w p e.
        let a = test_value true cs i x w e in
        valid.value cs i a.0 p.0 a.1 ∙ a.2;
  }
