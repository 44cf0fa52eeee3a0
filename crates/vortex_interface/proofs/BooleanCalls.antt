-- Calls of And and Or: their types and values, and calls with a constant.
use Rattle.std.proofs.Common.{◌≡◌, ℕ, Bool, true, false, List, [], ◌∷◌, Some, refl, sym, ap, ◌∙◌}
use Rattle.std.proofs.Common.{inl, inr}
use Rattle.std.specs.Prelude.{◌||◌, if◌then◌else◌}
use Rattle.vortex_types.specs.LogicalTypes.{LogicalType, bool_type}
use Rattle.vortex_types.specs.Values.{Value, truth, truth_of, truth_or_null}
use Rattle.vortex_columns.specs.ColumnView.{ColumnView}
use Rattle.vortex_operators.specs.Kleene.{decides}
use Rattle.vortex_operators.specs.declared.operators.Operator.{Operator}
use Rattle.vortex_operators.specs.declared.operators.Operator.TheVariants.{And, Or}
use Rattle.vortex_operators.specs.Operators.{is_boolean}
use Rattle.vortex_operators.specs.OperatorValues.{boolean_value}
use Rattle.vortex_operators.specs.SwapLaws.{turned}
use Rattle.vortex_interface.specs.Outcomes.{gives}
use Rattle.vortex_interface.specs.Meaning.{Meaning, Lawful}
use Rattle.vortex_interface.specs.Arguments.{or_either}
use Rattle.vortex_interface.specs.Shipped.{Binary, Cast}
use Rattle.vortex_interface.specs.Shipped.BinaryFunction.{both_bool, operator_type, operator_means}
use Rattle.vortex_interface.specs.Functions.{ours}
use Rattle.vortex_interface.specs.Trees.{Tree, leaf, constant, call, no_trees, tree}
use Rattle.vortex_interface.specs.Eval.{types_or_none, tree_type, tree_types, eval}
use Rattle.vortex_interface.specs.ComparisonTrees.{operated}
use Rattle.vortex_interface.specs.Rules.{truth_constant, cast_of, constant_truth}
use Rattle.vortex_interface.specs.Rules.{may_be_null, is_nullable_tree, widened}
use Rattle.vortex_interface.specs.Rewrites.{AsksNoMore, Rewrites}
use Rattle.vortex_interface.proofs.TypedCalls.{two_types, typed_call, type_of_one, two_values}
use Rattle.vortex_interface.proofs.TypedCalls.{eval_one, eval_two}
use Rattle.vortex_interface.proofs.TypedValues.{value_typed}
use Rattle.vortex_interface.proofs.Leaves.{in_one}
use Rattle.vortex_interface.proofs.Rewriting.{asks_nothing}
use Rattle.vortex_interface.proofs.KleeneConstants.{of_boolean, left_decides, left_leaves}
use Rattle.vortex_interface.proofs.KleeneConstants.{truth_back, truth_is}
use Rattle.vortex_interface.proofs.RuleAnswers.{gives_is}

-- the operands' types, where And or Or accepts them
bools_in : (t u r : LogicalType) → both_bool (t ∷ u ∷ []) ≡ Some r
    → (n : Bool) × (p : Bool) × (t ≡ bool_type n) × (u ≡ bool_type p) × (bool_type (n || p) ≡ r)
bools_in (bool_type n) (bool_type p) r h = (n, p, refl, refl, cc)
bools_in t u r h = cc

boolean_type : (op : Operator) (ts : List LogicalType) → is_boolean op ≡ true
    → operator_type op ts ≡ both_bool ts
boolean_type op ts h = of_boolean (λ o. operator_type o ts ≡ both_bool ts) refl refl op h

bools_of : (op : Operator) (t u r : LogicalType) (types : List LogicalType) → is_boolean op ≡ true
    → t ∷ u ∷ [] ≡ types → operator_type op types ≡ Some r
    → (n : Bool) × (p : Bool) × (t ≡ bool_type n) × (u ≡ bool_type p) × (bool_type (n || p) ≡ r)
bools_of op t u r types b e h =
    bools_in t u r (sym (boolean_type op (t ∷ u ∷ []) b) ∙ ap (operator_type op) e ∙ h)

boolean_means : (op : Operator) (ts : List LogicalType) (v w : Value) → is_boolean op ≡ true
    → operator_means op ts (v ∷ w ∷ []) ≡ gives (boolean_value op v w)
boolean_means op ts v w h =
    let Means = λ (o : Operator). operator_means o ts (v ∷ w ∷ []) ≡ gives (boolean_value o v w) in
    of_boolean Means refl refl op h

-- the order of the operands does not matter
boolean_turned : (op : Operator) (v w : Value) → is_boolean op ≡ true
    → boolean_value op v w ≡ boolean_value op w v
boolean_turned And v w h = (turned And And refl).values v w
boolean_turned Or v w h = (turned Or Or refl).values v w
boolean_turned op v w h = cc

module _ {V O : Type 0} (m : Meaning V O) where
  -- the node is a Bool, nullable by n wherever an operand is
  pub record IsBoolCall (op : Operator) (x y : Tree V O) (n : Bool) : Type 0 where
    pub left_null : Bool
    pub right_null : Bool
    pub left : tree_type m x ≡ Some (bool_type left_null)
    pub right : tree_type m y ≡ Some (bool_type right_null)
    pub either : (left_null || right_null) ≡ n
    pub node : tree_type m (operated op x y) ≡ Some (bool_type n)

  of_bools : (op : Operator) (x y : Tree V O) (k l t : LogicalType) (n p : Bool)
      → tree_type m x ≡ Some k → tree_type m y ≡ Some l → k ≡ bool_type n → l ≡ bool_type p
      → bool_type (n || p) ≡ t → tree_type m (operated op x y) ≡ Some t
      → IsBoolCall op x y (is_nullable_tree m (operated op x y))
  of_bools op x y k l t n p a b f g e h =
      let is : tree_type m (operated op x y) ≡ Some (bool_type (n || p)) = h ∙ ap Some (sym e) in
      let null : (n || p) ≡ is_nullable_tree m (operated op x y) = sym (ap may_be_null is) in
      record {
        left_null = n;
        right_null = p;
        left = a ∙ ap Some f;
        right = b ∙ ap Some g;
        either = null;
        node = is ∙ ap (λ z. Some (bool_type z)) null;
      }

  pub bool_call : (op : Operator) (x y : Tree V O) (t : LogicalType) → is_boolean op ≡ true
      → tree_type m (operated op x y) ≡ Some t
      → IsBoolCall op x y (is_nullable_tree m (operated op x y))
  bool_call op x y t b h =
      let c = typed_call m (ours (Binary op)) (tree x (tree y no_trees)) t h in
      let two = two_types (tree_type m x) (tree_type m y) c.types c.children in
      let is = bools_of op two.0 two.1 t c.types b two.4 c.returns in
      of_bools op x y two.0 two.1 t is.0 is.1 two.2 two.3 is.2 is.3 is.4 h

  -- the values of the operands, and back
  pub bool_values : (cs : List ColumnView) (i : ℕ) (op : Operator) (x y : Tree V O) (w : Value)
      → is_boolean op ≡ true → eval m cs (operated op x y) i ≡ gives w
      → (v : Value) × (z : Value) × (eval m cs x i ≡ gives v) × (eval m cs y i ≡ gives z)
      × (boolean_value op v z ≡ w)
  bool_values cs i op x y w b e =
      let a = two_values m cs i (ours (Binary op)) x y w e in
      let ts = types_or_none (tree_types m (tree x (tree y no_trees))) in
      let is = sym (boolean_means op ts a.0 a.1 b) ∙ a.4 in
      let same = gives_is (boolean_value op a.0 a.1) w is in
      (a.0, a.1, a.2, a.3, same)

  pub eval_bool : (cs : List ColumnView) (i : ℕ) (op : Operator) (x y : Tree V O) (v w : Value)
      → is_boolean op ≡ true → eval m cs x i ≡ gives v → eval m cs y i ≡ gives w
      → eval m cs (operated op x y) i ≡ gives (boolean_value op v w)
  eval_bool cs i op x y v w b h k =
      eval_two m cs i (ours (Binary op)) x y v w h k
      ∙ boolean_means op (types_or_none (tree_types m (tree x (tree y no_trees)))) v w b

  pub constant_given : (cs : List ColumnView) (i : ℕ) (x : Tree V O) (b : Bool)
      → constant_truth x ≡ Some b → eval m cs x i ≡ gives (truth b)
  constant_given cs i (leaf l) b h = cc
  constant_given cs i (constant s) b h = ap gives (truth_is s.value b h)
  constant_given cs i (call f ts) b h = cc

  -- an operand widened: its type, its value, and that it requires no more
  widened_type : (n p : Bool) (x : Tree V O) → tree_type m x ≡ Some (bool_type p)
      → (p ≡ true → n ≡ true) → tree_type m (widened m n x) ≡ Some (bool_type n)
  widened_type false false x h k = h
  widened_type false true x h k = let wrong : false ≡ true = k refl in cc
  widened_type true p x h k = by (is_nullable_tree m x) (ap may_be_null h)
    where
      by : (b : Bool) → b ≡ p → tree_type m (if b then x else cast_of x) ≡ Some (bool_type true)
      by true e = h ∙ ap (λ q. Some (bool_type q)) (sym e)
      by false e = type_of_one m (ours Cast) x (bool_type p) h

  widened_value : (cs : List ColumnView) (i : ℕ) (n : Bool) (x : Tree V O) (v : Value)
      → eval m cs x i ≡ gives v → eval m cs (widened m n x) i ≡ gives v
  widened_value cs i false x v h = h
  widened_value cs i true x v h = by (is_nullable_tree m x)
    where
      by : (b : Bool) → eval m cs (if b then x else cast_of x) i ≡ gives v
      by true = h
      by false = eval_one m cs i (ours Cast) x v h

  widened_asks : (t x : Tree V O) (n : Bool) → AsksNoMore t x → AsksNoMore t (widened m n x)
  widened_asks t x false a = a
  widened_asks t x true a = by (is_nullable_tree m x)
    where
      by : (b : Bool) → AsksNoMore t (if b then x else cast_of x)
      by true = a
      by false = record {
        leaves = λ p name k h. a.leaves p name k (in_one h);
        rows = λ cs i h. (a.rows cs i h, tt);
        places = λ h. (a.places h, tt);
      }

  pub asks_left : (op : Operator) (x y : Tree V O) → AsksNoMore (operated op x y) x
  asks_left op x y =
      record { leaves = λ p name k h. inl h; rows = λ cs i h. h.0; places = λ h. h.0 }

  pub asks_right : (op : Operator) (x y : Tree V O) → AsksNoMore (operated op x y) y
  asks_right op x y =
      record { leaves = λ p name k h. inr (inl h); rows = λ cs i h. h.1.0; places = λ h. h.1.0 }

  -- one operand of And or Or, x, and the other, y, in either order: the node is a Bool, nullable by
  -- n wherever the other is
  pub record AreOperands (op : Operator) (node : Tree V O) (n : Bool) (x y : Tree V O)
      : Type 0 where
    pub node_type : tree_type m node ≡ Some (bool_type n)
    pub other_null : Bool
    pub other_type : tree_type m y ≡ Some (bool_type other_null)
    pub wide : other_null ≡ true → n ≡ true
    pub asks_one : AsksNoMore node x
    pub asks_other : AsksNoMore node y
    pub values : (cs : List ColumnView) (i : ℕ) (w : Value) → eval m cs node i ≡ gives w
        → (v : Value) × (z : Value) × (eval m cs x i ≡ gives v) × (eval m cs y i ≡ gives z)
        × (boolean_value op v z ≡ w)

  module _ (op : Operator) (b : is_boolean op ≡ true) where
    module _ (x y : Tree V O) (n : Bool) (c : IsBoolCall op x y n) where
      pub left_first : AreOperands op (operated op x y) n x y
      left_first = record {
        node_type = c.node;
        other_null = c.right_null;
        other_type = c.right;
        wide = λ e. sym c.either ∙ or_either c.left_null c.right_null (inr e);
        asks_one = asks_left op x y;
        asks_other = asks_right op x y;
        values = λ cs i w e. bool_values cs i op x y w b e;
      }

      pub right_first : AreOperands op (operated op x y) n y x
      right_first = record {
        node_type = c.node;
        other_null = c.left_null;
        other_type = c.left;
        wide = λ e. sym c.either ∙ or_either c.left_null c.right_null (inl e);
        asks_one = asks_right op x y;
        asks_other = asks_left op x y;
        values = λ cs i w e.
            let q = bool_values cs i op x y w b e in
            (q.1, q.0, q.3, q.2, boolean_turned op q.1 q.0 b ∙ q.4);
      }

    module _ (node x y : Tree V O) (n a : Bool) (c : AreOperands op node n x y)
        (h : constant_truth x ≡ Some a) where
      -- the value of the node from that of the constant
      value_beside : (cs : List ColumnView) (i : ℕ) (w : Value) → eval m cs node i ≡ gives w
          → (z : Value) × (eval m cs y i ≡ gives z) × (boolean_value op (truth a) z ≡ w)
      value_beside cs i w e =
          let q = c.values cs i w e in
          let is = gives_is q.0 (truth a) (sym q.2 ∙ constant_given cs i x a h) in
          (q.1, q.3, ap (λ v. boolean_value op v q.1) (sym is) ∙ q.4)

      -- a constant that decides
      pub decided_sound : decides op a ≡ true → Rewrites m node (truth_constant n a)
      decided_sound d = record {
        dtype = sym c.node_type;
        asks = asks_nothing node n a;
        value = λ cs i w p e.
            let q = value_beside cs i w e in
            ap gives (ap truth_or_null (sym (left_decides op a (truth_of q.0) d)) ∙ q.2);
      }

      -- a constant that does not, and the other operand
      pub undecided_sound : Lawful m → decides op a ≡ false → Rewrites m node (widened m n y)
      undecided_sound lawful d = record {
        dtype = widened_type n c.other_null y c.other_type c.wide ∙ sym c.node_type;
        asks = widened_asks node y n c.asks_other;
        value = λ cs i w p e.
            let q = value_beside cs i w e in
            let row = c.asks_other.rows cs i p in
            let t = bool_type c.other_null in
            let typed = value_typed m lawful cs i y t q.0 c.other_type row q.1 in
            let back = sym (truth_back c.other_null q.0 typed) in
            let kleene = ap truth_or_null (sym (left_leaves op a (truth_of q.0) b d)) in
            widened_value cs i n y q.0 q.1 ∙ ap gives (back ∙ kleene ∙ q.2);
      }
