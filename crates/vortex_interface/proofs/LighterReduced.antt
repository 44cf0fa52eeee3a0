-- Reduce makes trees of shipped functions lighter, whatever the rules of other functions, and so
-- does the rule for expressions.
use Rattle.std.proofs.Common.{◌≡◌, ◌+◌, ◌≤◌, Bool, true, false, Option, Some, None, refl, sym, ap}
use Rattle.std.proofs.Common.{◌∙◌, subst, inl, inr, arith}
use Rattle.std.specs.Prelude.{◌||◌, ◌⊎◌, if◌then◌else◌}
use Rattle.std.specs.Option.{option_map, option_or}
use Rattle.vortex_types.specs.LogicalTypes.{LogicalType, bool_type}
use Rattle.vortex_operators.specs.Kleene.{decides}
use Rattle.vortex_operators.specs.declared.operators.Operator.{Operator}
use Rattle.vortex_operators.specs.declared.operators.Operator.TheVariants.{And, Or}
use Rattle.vortex_operators.specs.Operators.{is_boolean}
use Rattle.vortex_interface.specs.Meaning.{Meaning, Lawful}
use Rattle.vortex_interface.specs.Arguments.{or_either}
use Rattle.vortex_interface.specs.Shipped.{Shipped, Binary, Not, NullTest, IsNull, IsNotNull}
use Rattle.vortex_interface.specs.Functions.{ours, custom}
use Rattle.vortex_interface.specs.Trees.{Tree, call, Trees, no_trees, tree}
use Rattle.vortex_interface.specs.Eval.{tree_type}
use Rattle.vortex_interface.specs.ComparisonTrees.{negated, operated}
use Rattle.vortex_interface.specs.Rules.{Rules, no_rules, truth_constant, is_null_of, is_not_null_of}
use Rattle.vortex_interface.specs.Rules.{constant_truth, may_be_null, is_nullable_tree}
use Rattle.vortex_interface.specs.Rules.{widened}
use Rattle.vortex_interface.specs.ValidityRules.{validity}
use Rattle.vortex_interface.specs.ReduceRules.{nullable_first, by_nullability, is_null_within}
use Rattle.vortex_interface.specs.ReduceRules.{is_not_null_within, reduce_is_null, reduce_is_not_null}
use Rattle.vortex_interface.specs.ReduceRules.{of_constants, reduce_boolean, reduce_operator}
use Rattle.vortex_interface.specs.ReduceRules.{reduce_shipped, reduce}
use Rattle.vortex_interface.specs.Weights.{operator_added, shipped_added, weight, OnlyShipped}
use Rattle.vortex_interface.specs.Weights.{AllShipped, Lightens}
use Rattle.vortex_interface.proofs.RuleAnswers.{some_is, either_answer, mapped}
use Rattle.vortex_interface.proofs.TypedCalls.{only_child_type, type_of_one}
use Rattle.vortex_interface.proofs.KleeneConstants.{of_boolean}
use Rattle.vortex_interface.proofs.BooleanCalls.{bool_call}
use Rattle.vortex_interface.proofs.Validities.{no_rules_lawful}
use Rattle.vortex_interface.proofs.Reducing.{reduce_sound}
use Rattle.vortex_interface.proofs.LighterParts.{IsLess, above_one, left_less, right_less}
use Rattle.vortex_interface.proofs.ValidityWeights.{validity_no_heavier}

boolean_added : (op : Operator) (n : Bool) → is_boolean op ≡ true
    → operator_added op n ≡ (if n then 3 else 1)
boolean_added op n h =
    of_boolean (λ o. operator_added o n ≡ (if n then 3 else 1)) refl refl op h

right_false : (a b : Bool) → (a || b) ≡ false → b ≡ false
right_false true b h = cc
right_false false b h = h

module _ {V O : Type 0} (m : Meaning V O) where
  module _ (op : Operator) (x y : Tree V O) (s : OnlyShipped x) (z : OnlyShipped y) (n : Bool) where
    -- lighter than the node
    abbrev Less : Tree V O → Type 0
    Less u = IsLess m (operated op x y) u

    -- a constant, or the other operand
    beside_less : (d b : Bool) (u : Tree V O) → Less u → Less (if d then truth_constant n b else u)
    beside_less true b u less = (tt, above_one m (ours (Binary op)) x (tree y no_trees))
    beside_less false b u less = less

    constants_less : (l r : Option Bool) (u : Tree V O) → of_constants m op n x y l r ≡ Some u
        → Less u
    constants_less (Some a) (Some b) u e =
        subst Less (some_is _ u e) (tt, above_one m (ours (Binary op)) x (tree y no_trees))
    constants_less (Some a) None u e =
        subst Less (some_is _ u e)
        (beside_less (decides op a) a (widened m n y) (right_less m op n x y z))
    constants_less None (Some b) u e =
        subst Less (some_is _ u e)
        (beside_less (decides op b) b (widened m n x) (left_less m op n x y s))
    constants_less None None u e = cc

  boolean_less : (op : Operator) (ts : Trees V O) (u : Tree V O) → AllShipped ts
      → reduce_boolean m op ts ≡ Some u → IsLess m (call (ours (Binary op)) ts) u
  boolean_less op (tree x (tree y no_trees)) u s e =
      constants_less op x y s.0 s.1.0 (is_nullable_tree m (operated op x y)) (constant_truth x)
      (constant_truth y) u e
  boolean_less op ts u s e = cc

  operator_less : (op : Operator) (ts : Trees V O) (u : Tree V O) → AllShipped ts
      → reduce_operator m op ts ≡ Some u → IsLess m (call (ours (Binary op)) ts) u
  operator_less And ts u s e = boolean_less And ts u s e
  operator_less Or ts u s e = boolean_less Or ts u s e
  operator_less op ts u s e = cc

  -- two trees in either order, one of which was nullable
  record IsTurned (n k : Bool) (x y : Tree V O) (p : Tree V O × Tree V O) : Type 0 where
    pub one : (n ≡ true) ⊎ (k ≡ true)
    pub weighs : weight m p.0 + weight m p.1 ≡ weight m x + weight m y
    pub shipped : OnlyShipped p.0 × OnlyShipped p.1

  turned : (n k : Bool) (x y : Tree V O) (p : Tree V O × Tree V O) → OnlyShipped x → OnlyShipped y
      → nullable_first n k x y ≡ Some p → IsTurned n k x y p
  turned true false x y p s z e =
      let is : (x, y) ≡ p = cc in
      subst (IsTurned true false x y) is
      (record { one = inl refl; weighs = refl; shipped = (s, z) })
  turned false true x y p s z e =
      let is : (y, x) ≡ p = cc in
      subst (IsTurned false true x y) is
      (record { one = inr refl; weighs = omega arith; shipped = (z, s) })
  turned true true x y p s z e = cc
  turned false false x y p s z e = cc

  -- so And or Or of both adds three
  node_adds : (op : Operator) (x y : Tree V O) (t : LogicalType) → is_boolean op ≡ true
      → tree_type m (operated op x y) ≡ Some t
      → (is_nullable_tree m x ≡ true) ⊎ (is_nullable_tree m y ≡ true)
      → operator_added op (is_nullable_tree m (operated op x y)) ≡ 3
  node_adds op x y t b h one =
      let c = bool_call m op x y t b h in
      let null = sym c.either ∙ or_either c.left_null c.right_null (by c.left c.right one) in
      ap (operator_added op) null ∙ boolean_added op true b
    where
      by : {l r : Bool} → tree_type m x ≡ Some (bool_type l) → tree_type m y ≡ Some (bool_type r)
          → (is_nullable_tree m x ≡ true) ⊎ (is_nullable_tree m y ≡ true)
          → (l ≡ true) ⊎ (r ≡ true)
      by f g (inl q) = inl (sym (ap may_be_null f) ∙ q)
      by f g (inr q) = inr (sym (ap may_be_null g) ∙ q)

  -- if it is never null it adds one, and its right operand is never null
  never_adds : (op : Operator) (x y : Tree V O) → is_boolean op ≡ true
      → tree_type m (operated op x y) ≡ Some (bool_type false)
      → (operator_added op (is_nullable_tree m (operated op x y)) ≡ 1)
      × (is_nullable_tree m y ≡ false)
  never_adds op x y b h =
      let c = bool_call m op x y (bool_type false) b h in
      let never = ap may_be_null h in (
        ap (operator_added op) never ∙ boolean_added op false b,
        ap may_be_null c.right ∙ right_false c.left_null c.right_null (c.either ∙ never),
      )

  -- a null test of And or Or, from the test of the nullable operand and the other operand
  module _ (test : Bool) (op join : Operator) (b : is_boolean op ≡ true)
      (j : is_boolean join ≡ true) (x y : Tree V O) (t : LogicalType)
      (h : tree_type m (operated op x y) ≡ Some t) (s : OnlyShipped x) (z : OnlyShipped y) where
    abbrev tested : Tree V O → Tree V O
    tested a = call (ours (NullTest test)) (tree a no_trees)

    -- the other one, unchanged or negated
    test_less : (right : Tree V O → Tree V O) (u : Tree V O)
        → ((a : Tree V O) → OnlyShipped a → OnlyShipped (right a))
        → ((a : Tree V O) → is_nullable_tree m (right a) ≡ false
        → weight m (right a) ≤ 1 + weight m a)
        → tree_type m u ≡ Some (bool_type false)
        → option_map (λ p. operated join (tested p.0) (right p.1)) (by_nullability m x y) ≡ Some u
        → IsLess m (tested (operated op x y)) u
    test_less right u shipped no_more typed e =
        let a = mapped _ (by_nullability m x y) u e in
        let new = operated join (tested a.0.0) (right a.0.1) in
        let turn = turned (is_nullable_tree m x) (is_nullable_tree m y) x y a.0 s z a.1 in
        let node = node_adds op x y t b h turn.one in
        let never = never_adds join (tested a.0.0) (right a.0.1) j (ap (tree_type m) a.2 ∙ typed) in
        let answer = never.0 in
        let same = turn.weighs in
        let one = no_more a.0.1 never.1 in
        subst (IsLess m (tested (operated op x y))) a.2 (
          (tt, ((tt, (turn.shipped.0, tt)), (shipped a.0.1 turn.shipped.1, tt))),
          omega (arith, node, answer, same, one),
        )

    as_is_less : (u : Tree V O) → tree_type m u ≡ Some (bool_type false)
        → option_map (λ p. operated join (tested p.0) p.1) (by_nullability m x y) ≡ Some u
        → IsLess m (tested (operated op x y)) u
    as_is_less u typed e = test_less (λ a. a) u (λ a k. k) (λ a k. omega arith) typed e

    negated_less : (u : Tree V O) → tree_type m u ≡ Some (bool_type false)
        → option_map (λ p. operated join (tested p.0) (negated p.1)) (by_nullability m x y)
        ≡ Some u
        → IsLess m (tested (operated op x y)) u
    negated_less u typed e =
        test_less negated u (λ a k. (tt, (k, tt)))
        (λ a k. let one = ap (shipped_added Not) k in omega (arith, one)) typed e

  is_null_within_less : (x u : Tree V O) (t : LogicalType) → tree_type m x ≡ Some t
      → OnlyShipped x → tree_type m u ≡ Some (bool_type false) → is_null_within m x ≡ Some u
      → IsLess m (is_null_of x) u
  is_null_within_less (call (ours (Binary And)) (tree x (tree y no_trees))) u t h s k e =
      as_is_less false And And refl refl x y t h s.1.0 s.1.1.0 u k e
  is_null_within_less (call (ours (Binary Or)) (tree x (tree y no_trees))) u t h s k e =
      negated_less false Or And refl refl x y t h s.1.0 s.1.1.0 u k e
  is_null_within_less x u t h s k e = cc

  is_not_null_within_less : (x u : Tree V O) (t : LogicalType) → tree_type m x ≡ Some t
      → OnlyShipped x → tree_type m u ≡ Some (bool_type false) → is_not_null_within m x ≡ Some u
      → IsLess m (is_not_null_of x) u
  is_not_null_within_less (call (ours (Binary And)) (tree x (tree y no_trees))) u t h s k e =
      negated_less true And Or refl refl x y t h s.1.0 s.1.1.0 u k e
  is_not_null_within_less (call (ours (Binary Or)) (tree x (tree y no_trees))) u t h s k e =
      as_is_less true Or Or refl refl x y t h s.1.0 s.1.1.0 u k e
  is_not_null_within_less x u t h s k e = cc

  module _ (r : Rules V O) where
    is_null_less : (ts : Trees V O) (u : Tree V O) (t : LogicalType)
        → tree_type m (call (ours IsNull) ts) ≡ Some t → AllShipped ts
        → tree_type m u ≡ tree_type m (call (ours IsNull) ts) → reduce_is_null m r ts ≡ Some u
        → IsLess m (call (ours IsNull) ts) u
    is_null_less (tree x no_trees) u t h s k e =
        let c = only_child_type m (ours IsNull) x t h in
        let typed = k ∙ type_of_one m (ours IsNull) x c.0 c.1 in
        either_answer (is_nullable_tree m x) _ u _ _ (IsLess m (is_null_of x)) e
        (λ solid. (tt, above_one m (ours IsNull) x no_trees))
        (λ g.
        let a = mapped negated (validity m r x) u g in
        let valid = validity_no_heavier m r x a.0 c.0 c.1 s.0 a.1 in
        let one = ap (λ o. shipped_added Not (may_be_null o)) (ap (tree_type m) a.2 ∙ typed) in
        let no_heavier = valid.1 in
        subst (IsLess m (is_null_of x)) a.2
        ((tt, (valid.0, tt)), omega (arith, one, no_heavier)))
        (is_null_within_less x u c.0 c.1 s.0 typed)
    is_null_less ts u t h s k e = cc

    is_not_null_less : (ts : Trees V O) (u : Tree V O) (t : LogicalType)
        → tree_type m (call (ours IsNotNull) ts) ≡ Some t → AllShipped ts
        → tree_type m u ≡ tree_type m (call (ours IsNotNull) ts)
        → reduce_is_not_null m r ts ≡ Some u → IsLess m (call (ours IsNotNull) ts) u
    is_not_null_less (tree x no_trees) u t h s k e =
        let c = only_child_type m (ours IsNotNull) x t h in
        let typed = k ∙ type_of_one m (ours IsNotNull) x c.0 c.1 in
        either_answer (is_nullable_tree m x) _ u _ _ (IsLess m (is_not_null_of x)) e
        (λ solid. (tt, above_one m (ours IsNotNull) x no_trees))
        (λ g.
        let valid = validity_no_heavier m r x u c.0 c.1 s.0 g in
        let no_heavier = valid.1 in
        (valid.0, omega (arith, no_heavier)))
        (is_not_null_within_less x u c.0 c.1 s.0 typed)
    is_not_null_less ts u t h s k e = cc

    shipped_less : (f : Shipped) (ts : Trees V O) (u : Tree V O) (t : LogicalType)
        → tree_type m (call (ours f) ts) ≡ Some t → AllShipped ts
        → tree_type m u ≡ tree_type m (call (ours f) ts) → reduce_shipped m r f ts ≡ Some u
        → IsLess m (call (ours f) ts) u
    shipped_less (Binary op) ts u t h s k e = operator_less op ts u s e
    shipped_less (NullTest false) ts u t h s k e = is_null_less ts u t h s k e
    shipped_less (NullTest true) ts u t h s k e = is_not_null_less ts u t h s k e
    shipped_less f ts u t h s k e = cc

    reduced_less : (t u : Tree V O) (k : LogicalType) → tree_type m t ≡ Some k → OnlyShipped t
        → tree_type m u ≡ tree_type m t → reduce m r t ≡ Some u → IsLess m t u
    reduced_less (call (ours f) ts) u k h s d e = shipped_less f ts u k h s.1 d e
    reduced_less (call (custom f o) ts) u k h s d e = absurd s.0
    reduced_less t u k h s d e = cc

    -- no rule of another function is used
    validity_alone : (x : Tree V O) → OnlyShipped x → validity m no_rules x ≡ validity m r x
    validity_alone (call (custom f o) ts) s = absurd s.0
    validity_alone x s = refl

    is_null_alone : (ts : Trees V O) → AllShipped ts
        → reduce_is_null m no_rules ts ≡ reduce_is_null m r ts
    is_null_alone (tree x no_trees) s =
        ap (λ v. if is_nullable_tree m x
        then option_or (option_map negated v) (is_null_within m x)
        else Some (truth_constant false false)) (validity_alone x s.0)
    is_null_alone ts s = refl

    is_not_null_alone : (ts : Trees V O) → AllShipped ts
        → reduce_is_not_null m no_rules ts ≡ reduce_is_not_null m r ts
    is_not_null_alone (tree x no_trees) s =
        ap (λ v. if is_nullable_tree m x then option_or v (is_not_null_within m x)
        else Some (truth_constant false true)) (validity_alone x s.0)
    is_not_null_alone ts s = refl

    reduce_alone : (t : Tree V O) → OnlyShipped t → reduce m no_rules t ≡ reduce m r t
    reduce_alone (call (ours (NullTest false)) ts) s = is_null_alone ts s.1
    reduce_alone (call (ours (NullTest true)) ts) s = is_not_null_alone ts s.1
    reduce_alone (call (custom f o) ts) s = absurd s.0
    reduce_alone t s = refl

    pub reduce_lightens : Lawful m → Lightens m (reduce m r)
    reduce_lightens lawful t u k h s e =
        let none = no_rules_lawful m lawful in
        let typed = (reduce_sound m lawful no_rules none t u k h (reduce_alone t s ∙ e)).dtype in
        let less = reduced_less t u k h s typed e in
        record {
          dtype = typed;
          shipped = less.0;
          lighter = let weighs = less.1 in omega (arith, weighs);
        }
