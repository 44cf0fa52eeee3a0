-- The validity of a node is true in exactly the rows where it is not null.
use Rattle.std.proofs.Common.{◌≡◌, ℕ, suc, ◌<◌, Bool, true, false, not, List, [], ◌∷◌, length}
use Rattle.std.proofs.Common.{Option, Some, None, refl, sym, ap, ◌∙◌, subst, arith, inl, inr}
use Rattle.std.proofs.Common.{⊎_elim}
use Rattle.std.specs.Prelude.{◌&&◌, if◌then◌else◌, Any}
use Rattle.std.specs.List.{list_any}
use Rattle.std.proofs.lemmas.List.{get_or-map, length-map}
use Rattle.vortex_types.specs.LogicalTypes.{LogicalType, null_type, bool_type, integer_type}
use Rattle.vortex_types.specs.LogicalTypes.{text_type, bytes_type, struct_type, list_type}
use Rattle.vortex_types.specs.LogicalTypes.{fixed_size_list_type, map_type, is_nullable}
use Rattle.vortex_types.specs.LogicalTypes.{with_nullability, without_nullability}
use Rattle.vortex_types.specs.Values.{Value, null, truth, value_count}
use Rattle.vortex_types.specs.Values.{is_null}
use Rattle.vortex_types.specs.Typing.{HasType, OrNull, IsTruth, IsNumber, FitsPType, IsText}
use Rattle.vortex_types.specs.Typing.{IsBytes, IsList, HaveFields, Each, IsPair}
use Rattle.vortex_types.specs.ScalarView.{ScalarView}
use Rattle.vortex_operators.specs.OperatorValues.{boolean_value}
use Rattle.vortex_types.proofs.NullValues.{null_is, not_null}
use Rattle.vortex_columns.specs.ColumnView.{ColumnView, row, FormTells}
use Rattle.vortex_columns.specs.ValidityView.{ValidityForm, non_nullable, all_valid, all_invalid}
use Rattle.vortex_columns.specs.ValidityView.{array}
use Rattle.vortex_operators.specs.declared.operators.Operator.TheVariants.{And}
use Rattle.vortex_interface.specs.Outcomes.{gives, GivesType, GivesNull}
use Rattle.vortex_interface.specs.Meaning.{Meaning, Lawful, HaveTypes, AreAlike}
use Rattle.vortex_interface.specs.Shipped.{Binary, IsNotNull}
use Rattle.vortex_interface.specs.Functions.{Function, ours, custom, function_type, function_means}
use Rattle.vortex_interface.specs.Functions.{function_strict}
use Rattle.vortex_interface.specs.Trees.{place, held, Tree, leaf, constant, call, Trees}
use Rattle.vortex_interface.specs.Trees.{no_trees, tree}
use Rattle.vortex_interface.specs.Leaves.{IsLeafOf, IsLeafIn}
use Rattle.vortex_interface.specs.Eval.{all_give, tree_type, tree_types, eval, eval_all}
use Rattle.vortex_interface.specs.ComparisonTrees.{operated}
use Rattle.vortex_interface.specs.Rules.{Rules, no_rules, truth_constant, is_not_null_of, may_be_null}
use Rattle.vortex_interface.specs.Rules.{is_nullable_tree}
use Rattle.vortex_interface.specs.ValidityRules.{validity_column, column_validity, is_null_type}
use Rattle.vortex_interface.specs.ValidityRules.{without_null, null_tests, union_child_validities}
use Rattle.vortex_interface.specs.ValidityRules.{validity_over, validity_of_typed, default_validity}
use Rattle.vortex_interface.specs.ValidityRules.{default_rules, validity}
use Rattle.vortex_interface.specs.Bound.{OnlyPlaces, AllOnlyPlaces}
use Rattle.vortex_interface.specs.Rewrites.{HasTypedRow, HasRow, AllHaveRow, AsksNoMore, IsValidityOf}
use Rattle.vortex_interface.specs.Rewrites.{LawfulRules}
use Rattle.vortex_interface.proofs.TypedCalls.{types_parts, values_parts, typed_call, type_of_one}
use Rattle.vortex_interface.proofs.TypedCalls.{type_of_two, call_value, eval_one}
use Rattle.vortex_interface.proofs.TypedValues.{function_typed, function_alike, function_null}
use Rattle.vortex_interface.proofs.TypedValues.{values_typed}
use Rattle.vortex_interface.proofs.Leaves.{in_one, in_two}
use Rattle.vortex_interface.proofs.Rewriting.{asks_nothing}
use Rattle.vortex_interface.proofs.BooleanCalls.{eval_bool}
use Rattle.vortex_interface.proofs.JoinedByAnd.{AllSay, all_of_says}
use Rattle.vortex_interface.proofs.RuleAnswers.{gives_is, guarded, guarded_unless, answer_unless}
use Rattle.vortex_interface.proofs.RuleAnswers.{not_not}

-- no value is null
abbrev pub none_null : List Value → Bool
none_null [] = true
none_null (v ∷ vs) = not (is_null v) && none_null vs

any_later : (v : Value) (vs : List Value) → Any (λ w. w ≡ null) vs → Any (λ w. w ≡ null) (v ∷ vs)
any_later v vs (k, w, below, here, is) = (suc k, w, omega (arith, below), here, is)

some_null : (vs : List Value) → none_null vs ≡ false → Any (λ w. w ≡ null) vs
some_null [] h = cc
some_null (v ∷ vs) h = by (is_null v) refl h (some_null vs)
  where
    by : (b : Bool) → is_null v ≡ b → (not b && none_null vs) ≡ false
        → (none_null vs ≡ false → Any (λ w. w ≡ null) vs) → Any (λ w. w ≡ null) (v ∷ vs)
    by true e k later = (0, v, omega arith, refl, null_is v e)
    by false e k later = any_later v vs (later k)

-- a value that is not null has its type without null
or_no_null : (n : Bool) (P : Value → Type 0) (v : Value) → OrNull n P v → is_null v ≡ false
    → OrNull false P v
or_no_null n P null h e = cc
or_no_null n P v h e = h

type_without_null : (t : LogicalType) (v : Value) → HasType t v → is_null v ≡ false
    → HasType (with_nullability t false) v
type_without_null null_type v h e = h
type_without_null (bool_type n) v h e = or_no_null n IsTruth v h e
type_without_null (integer_type p n) v h e = or_no_null n (IsNumber (FitsPType p)) v h e
type_without_null (text_type n) v h e = or_no_null n IsText v h e
type_without_null (bytes_type n) v h e = or_no_null n IsBytes v h e
type_without_null (struct_type fs n) v h e = or_no_null n (IsList (HaveFields fs)) v h e
type_without_null (list_type a n) v h e = or_no_null n (IsList (Each (HasType a))) v h e
type_without_null (fixed_size_list_type a s n) v h e =
    or_no_null n (IsList (λ vs. (value_count vs ≡ s) × Each (HasType a) vs)) v h e
type_without_null (map_type k a n) v h e =
    or_no_null n (IsList (Each (IsList (IsPair (HasType k) (HasType a))))) v h e

have_types_without_null : (ts : List LogicalType) (vs : List Value) → HaveTypes ts vs
    → none_null vs ≡ true → HaveTypes (without_null ts) vs
have_types_without_null [] [] h e = tt
have_types_without_null [] (v ∷ vs) h e = absurd h
have_types_without_null (t ∷ ts) [] h e = absurd h
have_types_without_null (t ∷ ts) (v ∷ vs) h e =
    by (is_null v) refl e (have_types_without_null ts vs h.1)
  where
    by : (b : Bool) → is_null v ≡ b → (not b && none_null vs) ≡ true
        → (none_null vs ≡ true → HaveTypes (without_null ts) vs)
        → HaveTypes (without_null (t ∷ ts)) (v ∷ vs)
    by true p k others = cc
    by false p k others = (type_without_null t v h.0 p, others k)

same_apart : (t : LogicalType)
    → without_nullability t ≡ without_nullability (with_nullability t false)
same_apart null_type = refl
same_apart t = refl

without_null_alike : (ts : List LogicalType) → AreAlike ts (without_null ts)
without_null_alike [] = refl
without_null_alike (t ∷ ts) = λ j. same_apart t j ∷ without_null_alike ts j

never_null_type : (o : Option LogicalType) → may_be_null o ≡ false
    → (t : LogicalType) × (o ≡ Some t) × (is_nullable t ≡ false)
never_null_type None h = cc
never_null_type (Some t) h = (t, refl, h)

and_truths : (p q : Bool) → boolean_value And (truth p) (truth q) ≡ truth (p && q)
and_truths p q = grind arith

-- the column of validity bits, row by row
validity_at : (c : ColumnView) (i : ℕ) → i < length c.rows
    → row (validity_column c).rows i ≡ truth (not (is_null (row c.rows i)))
validity_at c i h = get_or-map (λ v. truth (not (is_null v))) c.rows i null null h

validity_row : (c : ColumnView) (i : ℕ) → HasTypedRow c i → HasTypedRow (validity_column c) i
validity_row c i h = record {
  within =
      let same = length-map c.rows (λ v. truth (not (is_null v))) in
      subst (λ n. i < n) (sym same) h.within;
  typed = subst (HasType (bool_type false)) (sym (validity_at c i h.within)) tt;
  told = ap is_null (validity_at c i h.within);
}

module _ {V O : Type 0} (m : Meaning V O) where
  -- a property of the null test of each nullable child holds for each test
  each_test : (P : Tree V O → Type 0) (t : Tree V O) (rest : List (Tree V O)) (b : Bool)
      → P (is_not_null_of t) → AllSay (λ u p. P u) rest true
      → AllSay (λ u p. P u) (if b then is_not_null_of t ∷ rest else rest) true
  each_test P t rest true h k = (true, true, h, k, refl)
  each_test P t rest false h k = k

  -- a property that children pass to their null tests, and two trees to their And, holds for the
  -- union of the children's validities
  union_each : (P : Tree V O → Type 0) (Q : Trees V O → Type 0) → P (truth_constant false true)
      → ((t u : Tree V O) → P t → P u → P (operated And t u))
      → ((t : Tree V O) (ts : Trees V O) → Q (tree t ts) → P (is_not_null_of t) × Q ts)
      → (ts : Trees V O) → Q ts → P (union_child_validities m ts)
  union_each P Q none joined first ts h =
      all_of_says (λ u p. P u) (λ t u p q a b. joined t u a b) none (null_tests m ts) true
      (each ts h)
    where
      each : (us : Trees V O) → Q us → AllSay (λ u p. P u) (null_tests m us) true
      each no_trees k = refl
      each (tree t us) k =
          let a = first t us k in
          each_test P t (null_tests m us) (is_nullable_tree m t) a.0 (each us a.1)

  -- in a row the tests together mean that no child is null
  abbrev Says : List ColumnView → ℕ → Tree V O → Bool → Type 0
  Says cs i u p = eval m cs u i ≡ gives (truth p)

  one_more_test : (cs : List ColumnView) (i : ℕ) (t : Tree V O) (k : LogicalType)
      (rest : List (Tree V O)) (v : Value) (vs : List Value) (b : Bool) → is_nullable_tree m t ≡ b
      → tree_type m t ≡ Some k → HasType k v → eval m cs t i ≡ gives v
      → AllSay (Says cs i) rest (none_null vs)
      → AllSay (Says cs i) (if b then is_not_null_of t ∷ rest else rest) (none_null (v ∷ vs))
  one_more_test cs i t k rest v vs true p typed h e others =
      (not (is_null v), none_null vs, eval_one m cs i (ours IsNotNull) t v e, others, refl)
  one_more_test cs i t k rest v vs false p typed h e others =
      let solid = not_null k v h (sym (ap may_be_null typed) ∙ p) in
      subst (AllSay (Says cs i) rest) (ap (λ b. not b && none_null vs) (sym solid)) others

  tests_say : (cs : List ColumnView) (i : ℕ) (ts : Trees V O) (types : List LogicalType)
      (vs : List Value) → tree_types m ts ≡ Some types → HaveTypes types vs
      → eval_all m cs ts i ≡ all_give vs → AllSay (Says cs i) (null_tests m ts) (none_null vs)
  tests_say cs i no_trees types vs h k e = let is : [] ≡ vs = cc in ap none_null is
  tests_say cs i (tree t ts) types vs h k e =
      let a = types_parts (tree_type m t) (tree_types m ts) types h in
      let q = values_parts (eval m cs t i) (eval_all m cs ts i) vs e in
      let have = subst (HaveTypes (a.0 ∷ a.1)) (sym q.4)
      (subst (λ (us : List LogicalType). HaveTypes us vs) (sym a.4) k) in
      let others = tests_say cs i ts a.1 q.1 a.3 have.1 q.3 in
      subst (AllSay (Says cs i) (null_tests m (tree t ts))) (ap none_null q.4)
      (one_more_test cs i t a.0 (null_tests m ts) q.0 q.1 (is_nullable_tree m t) refl a.2 have.0 q.2
      others)

  and_says : (cs : List ColumnView) (i : ℕ) (t u : Tree V O) (p q : Bool) → Says cs i t p
      → Says cs i u q → Says cs i (operated And t u) (p && q)
  and_says cs i t u p q h k =
      eval_bool m cs i And t u (truth p) (truth q) refl h k ∙ ap gives (and_truths p q)

  -- its type, what it requires, and its value
  union_type : (ts : Trees V O) (types : List LogicalType) → tree_types m ts ≡ Some types
      → tree_type m (union_child_validities m ts) ≡ Some (bool_type false)
  union_type ts types h =
      union_each (λ u. tree_type m u ≡ Some (bool_type false))
      (λ us. (k : List LogicalType) × (tree_types m us ≡ Some k)) refl
      (λ t u a b. type_of_two m (ours (Binary And)) t u (bool_type false) (bool_type false) a b)
      (λ t us k.
      let a = types_parts (tree_type m t) (tree_types m us) k.0 k.1 in
      (type_of_one m (ours IsNotNull) t a.0 a.2, (a.1, a.3))) ts (types, h)

  union_asks : (f : Function V O) (ts : Trees V O)
      → AsksNoMore (call f ts) (union_child_validities m ts)
  union_asks f ts = record {
    leaves = λ p name k h.
        let l = place p name k in
        union_each (λ u. IsLeafOf l u → IsLeafIn l ts) (λ us. IsLeafIn l us → IsLeafIn l ts)
        (λ is. absurd is) (λ t u one other is. ⊎_elim one other (in_two is))
        (λ t us k. ((λ is. k (inl (in_one is))), (λ is. k (inr is)))) ts (λ is. is) h;
    rows = λ cs i h.
        union_each (HasRow cs i) (AllHaveRow cs i) tt (λ t u a b. (a, (b, tt)))
        (λ t us k. ((k.0, tt), k.1)) ts h;
    places = λ h.
        union_each OnlyPlaces AllOnlyPlaces tt (λ t u a b. (a, (b, tt)))
        (λ t us k. ((k.0, tt), k.1)) ts h;
  }

  union_says : (cs : List ColumnView) (i : ℕ) (ts : Trees V O) (types : List LogicalType)
      (vs : List Value) → tree_types m ts ≡ Some types → HaveTypes types vs
      → eval_all m cs ts i ≡ all_give vs
      → eval m cs (union_child_validities m ts) i ≡ gives (truth (none_null vs))
  union_says cs i ts types vs h k e =
      all_of_says (Says cs i) (and_says cs i) refl (null_tests m ts) (none_null vs)
      (tests_say cs i ts types vs h k e)

  module _ (lawful : Lawful m) where
    -- a strict function that is null only where a child is: null exactly where a child is
    null_where_child : (f : Function V O) (types : List LogicalType) (t u : LogicalType)
        (vs : List Value) (w : Value) → function_strict m f ≡ true
        → function_type m f types ≡ Some t
        → function_type m f (without_null types) ≡ Some u → is_nullable u ≡ false
        → HaveTypes types vs → function_means m f types vs ≡ gives w
        → none_null vs ≡ not (is_null w)
    null_where_child f types t u vs w s r a n h e = by (none_null vs) refl
      where
        by : (b : Bool) → none_null vs ≡ b → b ≡ not (is_null w)
        by true p =
            let have = have_types_without_null types vs h p in
            let same = function_alike m lawful f types (without_null types) t u vs r a
            (without_null_alike types) h have in
            let typed = subst (GivesType u) (sym same ∙ e)
            (function_typed m lawful f (without_null types) u vs a have) in
            sym (ap not (not_null u w typed n))
        by false p =
            let none = subst GivesNull e
            (function_null m lawful f types t vs s r h (some_null vs p)) in
            sym (ap (λ v. not (is_null v)) none)

    union_sound : (f : Function V O) (ts : Trees V O) (types : List LogicalType) (t u : LogicalType)
        → tree_types m ts ≡ Some types → function_type m f types ≡ Some t
        → function_strict m f ≡ true
        → function_type m f (without_null types) ≡ Some u → is_nullable u ≡ false
        → IsValidityOf m (call f ts) (union_child_validities m ts)
    union_sound f ts types t u h r s a n = record {
      dtype = union_type ts types h;
      asks = union_asks f ts;
      value = λ cs i w p e.
          let c = call_value m cs i f ts types w h e in
          let have = values_typed m lawful cs i ts types c.values h p c.children in
          let is = null_where_child f types t u c.values w s r a n have c.means in
          union_says cs i ts types c.values h have c.children ∙ ap (λ b. gives (truth b)) is;
    }

    over_sound : (f : Function V O) (ts : Trees V O) (types : List LogicalType) (t : LogicalType)
        (v : Tree V O) → tree_types m ts ≡ Some types → function_type m f types ≡ Some t
        → function_strict m f ≡ true → validity_over m f ts types ≡ Some v
        → IsValidityOf m (call f ts) v
    over_sound f ts types t v h r s e =
        let a = guarded_unless (list_any is_null_type types) _ v e in
        let b = answer_unless (may_be_null (function_type m f (without_null types))) _ v a.1 in
        let c = never_null_type (function_type m f (without_null types)) b.0 in
        subst (IsValidityOf m (call f ts)) b.1 (union_sound f ts types t c.0 h r s c.1 c.2)

    -- the default validity of a well-typed call, for a caller's function too
    pub default_validity_sound : (f : Function V O) (ts : Trees V O) (t : LogicalType)
        (v : Tree V O) → tree_type m (call f ts) ≡ Some t → default_validity m f ts ≡ Some v
        → IsValidityOf m (call f ts) v
    default_validity_sound f ts t v h e =
        let a = guarded (function_strict m f) (validity_of_typed m f ts (tree_types m ts)) v e in
        let c = typed_call m f ts t h in
        let over = ap (validity_of_typed m f ts) (sym c.children) ∙ a.1 in
        over_sound f ts c.types t v c.children c.returns a.0 over

    constant_sound : (s : ScalarView)
        → IsValidityOf m (constant s) (truth_constant false (not (is_null s.value)))
    constant_sound s = record {
      dtype = refl;
      asks = asks_nothing (constant s) false (not (is_null s.value));
      value = λ cs i w p e.
          ap (λ v. gives (truth (not (is_null v)))) (gives_is s.value w e);
    }

    -- a form that is the same for all rows
    form_sound : (c : ColumnView) (b : Bool)
        → ((i : ℕ) → HasTypedRow c i → is_null (row c.rows i) ≡ not b)
        → IsValidityOf m (leaf (held c)) (truth_constant false b)
    form_sound c b told = record {
      dtype = refl;
      asks = asks_nothing (leaf (held c)) false b;
      value = λ cs i w p e.
          let null = told i p in
          let is = gives_is (row c.rows i) w e in
          ap (λ a. gives (truth a))
          (sym (not_not b) ∙ ap not (sym null) ∙ ap (λ v. not (is_null v)) is);
    }

    array_sound : (c : ColumnView)
        → IsValidityOf m (leaf (held c)) (leaf (held (validity_column c)))
    array_sound c = record {
      dtype = refl;
      asks = record {
        leaves = λ p name k is. cc;
        rows = λ cs i h. validity_row c i h;
        places = λ h. absurd h;
      };
      value = λ cs i w p e.
          ap gives (validity_at c i p.within)
          ∙ ap (λ v. gives (truth (not (is_null v)))) (gives_is (row c.rows i) w e);
    }

    column_sound : (c : ColumnView) (form : ValidityForm) → c.form ≡ form
        → IsValidityOf m (leaf (held c)) (column_validity form c)
    column_sound c non_nullable e =
        form_sound c true (λ i p. subst (λ f. FormTells f (row c.rows i)) e p.told)
    column_sound c all_valid e =
        form_sound c true (λ i p. subst (λ f. FormTells f (row c.rows i)) e p.told)
    column_sound c all_invalid e =
        form_sound c false (λ i p. subst (λ f. FormTells f (row c.rows i)) e p.told)
    column_sound c array e = array_sound c

    -- if the validity of a well-typed node is a tree, that is true exactly in the rows where the
    -- node is not null
    pub validity_sound : (r : Rules V O) → LawfulRules m r → (x v : Tree V O) (t : LogicalType)
        → tree_type m x ≡ Some t → validity m r x ≡ Some v → IsValidityOf m x v
    validity_sound r rules (leaf (place p name k)) v t h e = cc
    validity_sound r rules (leaf (held c)) v t h e =
        let is : column_validity c.form c ≡ v = cc in
        subst (IsValidityOf m (leaf (held c))) is (column_sound c c.form refl)
    validity_sound r rules (constant s) v t h e =
        let is : truth_constant false (not (is_null s.value)) ≡ v = cc in
        subst (IsValidityOf m (constant s)) is (constant_sound s)
    validity_sound r rules (call (ours s) ts) v t h e = default_validity_sound (ours s) ts t v h e
    validity_sound r rules (call (custom f o) ts) v t h e = rules.validity f o ts t v h e

    -- functions without rules, and with only the default validity, have lawful rules
    pub no_rules_lawful : LawfulRules m no_rules
    no_rules_lawful = record {
      validity = λ f o ts t v h e. cc;
      reduce = λ f o ts t u h e. cc;
      simplify = λ f o ts t u h e. cc;
    }

    pub default_rules_lawful : LawfulRules m (default_rules m)
    default_rules_lawful = record {
      validity = λ f o ts t v h e. default_validity_sound (custom f o) ts t v h e;
      reduce = λ f o ts t u h e. cc;
      simplify = λ f o ts t u h e. cc;
    }
