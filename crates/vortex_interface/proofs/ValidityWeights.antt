-- The validity of a tree of only shipped functions weighs no more than the tree.
use Rattle.std.proofs.Common.{◌≡◌, suc, ◌+◌, ◌≤◌, Bool, true, false, not, List, [], ◌∷◌, length}
use Rattle.std.proofs.Common.{Some, refl, sym, ap, ◌∙◌, subst, arith, nat_eq}
use Rattle.std.specs.Prelude.{if◌then◌else◌}
use Rattle.std.specs.List.{list_any}
use Rattle.vortex_types.specs.LogicalTypes.{LogicalType, bool_type}
use Rattle.vortex_types.specs.Values.{is_null}
use Rattle.vortex_columns.specs.ColumnView.{ColumnView}
use Rattle.vortex_columns.specs.ValidityView.{ValidityForm, non_nullable}
use Rattle.vortex_operators.specs.declared.operators.Operator.{Operator}
use Rattle.vortex_operators.specs.declared.operators.Operator.TheVariants.{And, Or}
use Rattle.vortex_operators.specs.Operators.{is_boolean}
use Rattle.vortex_interface.specs.Meaning.{Meaning}
use Rattle.vortex_interface.specs.Shipped.{Shipped, Binary, Not, IsNotNull, Cast, Like, shipped_type}
use Rattle.vortex_interface.specs.Shipped.{is_strict}
use Rattle.vortex_interface.specs.Shipped.NotFunction.{not_type}
use Rattle.vortex_interface.specs.Shipped.CastFunction.{cast_type}
use Rattle.vortex_interface.specs.Functions.{ours, custom}
use Rattle.vortex_interface.specs.Trees.{place, held, Tree, leaf, constant, call, Trees, no_trees}
use Rattle.vortex_interface.specs.Trees.{tree, list_of}
use Rattle.vortex_interface.specs.Eval.{tree_type, tree_types}
use Rattle.vortex_interface.specs.Rules.{Rules, truth_constant, is_not_null_of, may_be_null}
use Rattle.vortex_interface.specs.Rules.{is_nullable_tree}
use Rattle.vortex_interface.specs.ValidityRules.{column_validity, all_of, is_null_type, without_null}
use Rattle.vortex_interface.specs.ValidityRules.{union_child_validities, validity_of_typed}
use Rattle.vortex_interface.specs.ValidityRules.{default_validity, validity}
use Rattle.vortex_interface.specs.Weights.{operator_added, shipped_added, weight, OnlyShipped}
use Rattle.vortex_interface.specs.Weights.{AllShipped}
use Rattle.vortex_interface.proofs.RuleAnswers.{guarded, guarded_unless, answer_unless}
use Rattle.vortex_interface.proofs.TypedCalls.{types_parts, one_type, two_types, IsTypedCall}
use Rattle.vortex_interface.proofs.TypedCalls.{typed_call, type_of_one, type_of_two}
use Rattle.vortex_interface.proofs.Weighed.{weight_positive}

-- an operator that is not And or Or adds five
strict_added : (op : Operator) (n : Bool) → not (is_boolean op) ≡ true → operator_added op n ≡ 5
strict_added And n h = cc
strict_added Or n h = cc
strict_added op n h = refl

-- a cast is always nullable
no_cast : (types : List LogicalType) (t : LogicalType) → cast_type types ≡ Some t
    → may_be_null (cast_type (without_null types)) ≡ true
no_cast (bool_type n ∷ []) t h = refl
no_cast types t h = cc

-- Not has the type of its child
not_is : (types : List LogicalType) (t k : LogicalType) → not_type types ≡ Some t
    → k ∷ [] ≡ types → (n : Bool) × (k ≡ bool_type n)
not_is (bool_type n ∷ []) t k h e = (n, cc)
not_is types t k h e = cc

module _ {V O : Type 0} (m : Meaning V O) where
  -- of shipped functions only, and no heavier
  abbrev pub NoHeavier : Tree V O → Tree V O → Type 0
  NoHeavier t v = OnlyShipped v × (weight m v ≤ weight m t)

  column_no_heavier : (c : ColumnView) (form : ValidityForm)
      → NoHeavier (leaf (held c)) (column_validity form c)
  column_no_heavier c non_nullable = (tt, omega arith)
  column_no_heavier c form = (tt, omega arith)

  -- the null test of one child and those of two, joined where there are two
  one_test : (x : Tree V O) (b : Bool) (v : Tree V O) → OnlyShipped x
      → all_of (if b then is_not_null_of x ∷ [] else []) ≡ v
      → OnlyShipped v × (weight m v ≤ (if b then 2 else 1) + weight m x)
  one_test x true v s e =
      subst (λ u. OnlyShipped u × (weight m u ≤ 2 + weight m x)) e ((tt, (s, tt)), omega arith)
  one_test x false v s e =
      let some = weight_positive m x in
      subst (λ u. OnlyShipped u × (weight m u ≤ 1 + weight m x)) e (tt, omega (arith, some))

  two_tests : (x y : Tree V O) (k l : LogicalType) (a b : Bool) → tree_type m x ≡ Some k
      → tree_type m y ≡ Some l → OnlyShipped x → OnlyShipped y
      → (v : Tree V O)
      → all_of (if a then is_not_null_of x ∷ (if b then is_not_null_of y ∷ [] else [])
      else (if b then is_not_null_of y ∷ [] else [])) ≡ v
      → OnlyShipped v × (weight m v ≤ 5 + (weight m x + weight m y))
  two_tests x y k l true true h i s z v e =
      let left = type_of_one m (ours IsNotNull) x k h in
      let right = type_of_one m (ours IsNotNull) y l i in
      let typed = ap may_be_null (type_of_two m (ours (Binary And)) (is_not_null_of x)
      (is_not_null_of y) (bool_type false) (bool_type false) left right) in
      let added = ap (operator_added And) typed in
      subst (λ u. OnlyShipped u × (weight m u ≤ 5 + (weight m x + weight m y))) e
      ((tt, ((tt, (s, tt)), ((tt, (z, tt)), tt))), omega (arith, added))
  two_tests x y k l true false h i s z v e =
      subst (λ u. OnlyShipped u × (weight m u ≤ 5 + (weight m x + weight m y))) e
      ((tt, (s, tt)), omega arith)
  two_tests x y k l false true h i s z v e =
      subst (λ u. OnlyShipped u × (weight m u ≤ 5 + (weight m x + weight m y))) e
      ((tt, (z, tt)), omega arith)
  two_tests x y k l false false h i s z v e =
      subst (λ u. OnlyShipped u × (weight m u ≤ 5 + (weight m x + weight m y))) e
      (tt, omega arith)

  -- as many types as trees
  count_types : (ts : Trees V O) (types : List LogicalType) → tree_types m ts ≡ Some types
      → length types ≡ length (list_of ts)
  count_types no_trees types h = let is : [] ≡ types = cc in ap length (sym is)
  count_types (tree t ts) types h =
      let a = types_parts (tree_type m t) (tree_types m ts) types h in
      ap length (sym a.4) ∙ ap suc (count_types ts a.1 a.3)

  -- the validity of Not
  not_union : (ts : Trees V O) (v : Tree V O) (t : LogicalType)
      → IsTypedCall m (ours Not) ts t → AllShipped ts → union_child_validities m ts ≡ v
      → NoHeavier (call (ours Not) ts) v
  not_union (tree x no_trees) v t c s e =
      let a = one_type (tree_type m x) c.types c.children in
      let bool = not_is c.types t a.0 c.returns a.2 in
      let typed = a.1 ∙ ap Some bool.1 in
      let node = ap may_be_null (type_of_one m (ours Not) x (bool_type bool.0) typed) in
      let same = ap (shipped_added Not) (node ∙ sym (ap may_be_null typed)) in
      let test = one_test x (is_nullable_tree m x) v s.0 e in
      let less = test.1 in
      (test.0, omega (arith, same, less))
  not_union ts v t c s e =
      let count = count_types ts c.types c.children in
      let one : length c.types ≡ 1 = grind (arith, c.fitting) in
      absurd (omega (arith, count, one))

  -- that of a call with two arguments that adds five
  two_union : (f : Shipped) (ts : Trees V O) (v : Tree V O) (types : List LogicalType)
      → shipped_added f (is_nullable_tree m (call (ours f) ts)) ≡ 5
      → tree_types m ts ≡ Some types → nat_eq (length types) 2 ≡ true → AllShipped ts
      → union_child_validities m ts ≡ v → NoHeavier (call (ours f) ts) v
  two_union f (tree x (tree y no_trees)) v types five h n s e =
      let a = two_types (tree_type m x) (tree_type m y) types h in
      let tests = two_tests x y a.0 a.1 (is_nullable_tree m x) (is_nullable_tree m y) a.2 a.3 s.0
      s.1.0 v e in
      let less = tests.1 in
      (tests.0, omega (arith, five, less))
  two_union f ts v types five h n s e =
      let count = count_types ts types h in
      let two : length types ≡ 2 = grind (arith, n) in
      absurd (omega (arith, count, two))

  union_no_heavier : (f : Shipped) (ts : Trees V O) (v : Tree V O) (t : LogicalType)
      (c : IsTypedCall m (ours f) ts t) → is_strict f ≡ true
      → may_be_null (shipped_type f (without_null c.types)) ≡ false
      → AllShipped ts → union_child_validities m ts ≡ v → NoHeavier (call (ours f) ts) v
  union_no_heavier (Binary op) ts v t c strict solid s e =
      two_union (Binary op) ts v c.types
      (strict_added op (is_nullable_tree m (call (ours (Binary op)) ts)) strict) c.children
      c.fitting s e
  union_no_heavier Not ts v t c strict solid s e = not_union ts v t c s e
  union_no_heavier Cast ts v t c strict solid s e =
      let none = sym (no_cast c.types t c.returns) ∙ solid in
      cc
  union_no_heavier (Like options) ts v t c strict solid s e =
      two_union (Like options) ts v c.types refl c.children c.fitting s e
  union_no_heavier f ts v t c strict solid s e = cc

  call_no_heavier : (f : Shipped) (ts : Trees V O) (v : Tree V O) (t : LogicalType)
      → tree_type m (call (ours f) ts) ≡ Some t → AllShipped ts
      → default_validity m (ours f) ts ≡ Some v → NoHeavier (call (ours f) ts) v
  call_no_heavier f ts v t h s e =
      let a = guarded (is_strict f) (validity_of_typed m (ours f) ts (tree_types m ts)) v e in
      let c = typed_call m (ours f) ts t h in
      let over = ap (validity_of_typed m (ours f) ts) (sym c.children) ∙ a.1 in
      let b = guarded_unless (list_any is_null_type c.types) _ v over in
      let d = answer_unless (may_be_null (shipped_type f (without_null c.types))) _ v b.1 in
      union_no_heavier f ts v t c a.0 d.0 s d.1

  pub validity_no_heavier : (r : Rules V O) (x v : Tree V O) (t : LogicalType)
      → tree_type m x ≡ Some t → OnlyShipped x → validity m r x ≡ Some v → NoHeavier x v
  validity_no_heavier r (leaf (place p name k)) v t h s e = cc
  validity_no_heavier r (leaf (held c)) v t h s e =
      let is : column_validity c.form c ≡ v = cc in
      subst (NoHeavier (leaf (held c))) is (column_no_heavier c c.form)
  validity_no_heavier r (constant c) v t h s e =
      let is : truth_constant false (not (is_null c.value)) ≡ v = cc in
      subst (NoHeavier (constant c)) is (tt, omega arith)
  validity_no_heavier r (call (ours f) ts) v t h s e = call_no_heavier f ts v t h s.1 e
  validity_no_heavier r (call (custom f o) ts) v t h s e = absurd s.0
