-- Operators in trees: comparisons negated, and operands swapped.
use Rattle.std.specs.Prelude.{◌≡◌, ℕ, List, [], ◌∷◌, Option, Some, None, Bool, true, false, ⊤, refl}
use Rattle.std.proofs.Common.{ap, ◌∙◌, sym, subst, cond}
use Rattle.vortex_types.specs.declared.dtype.PType.{PType}
use Rattle.vortex_types.specs.declared.dtype.PType.TheVariants.{I8}
use Rattle.vortex_errors.specs.declared.error.NumericOperator.{NumericOperator}
use Rattle.vortex_types.specs.LogicalTypes.{LogicalType, integer_type, is_integer_type}
use Rattle.vortex_types.specs.TypeEquality.{ptype_eq, ptype_yes, ptype_refl}
use Rattle.vortex_types.specs.Values.{Value, null}
use Rattle.vortex_columns.specs.ColumnView.{ColumnView}
use Rattle.vortex_operators.specs.declared.operators.CompareOperator.{CompareOperator}
use Rattle.vortex_operators.specs.declared.operators.CompareOperator.TheVariants.{Eq}
use Rattle.vortex_operators.specs.declared.operators.Operator.{Operator}
use Rattle.vortex_operators.specs.Arithmetic.{arithmetic_value, integer_of_both}
use Rattle.vortex_operators.specs.Arithmetic.{numeric_operator_of}
use Rattle.vortex_operators.specs.Operators.{operator_of, compare_inverse, swap_of}
use Rattle.vortex_operators.specs.OperatorValues.{not_value, comparison_value}
use Rattle.vortex_operators.specs.ComparisonLaws.{are_inverse}
use Rattle.vortex_operators.specs.SwapLaws.{AreTurned, result_by, turned}
use Rattle.vortex_interface.specs.Outcomes.{Outcome, gives, faults}
use Rattle.vortex_interface.specs.Meaning.{Meaning}
use Rattle.vortex_interface.specs.Arguments.{of_one}
use Rattle.vortex_interface.specs.Arithmetic.{integer_of, arithmetic_of, value_or_fault}
use Rattle.vortex_interface.specs.Shipped.{Binary, Not}
use Rattle.vortex_interface.specs.Shipped.BinaryFunction.{means_by, operator_means}
use Rattle.vortex_interface.specs.Functions.{ours}
use Rattle.vortex_interface.specs.Trees.{Tree, call, no_trees, tree}
use Rattle.vortex_interface.specs.Eval.{eval, all_give, with_first, then_means, tree_type}
use Rattle.vortex_interface.specs.Eval.{tree_types, types_or_none, with_type}

-- a op b, and not a
abbrev pub compared : {V O : Type 0} → CompareOperator → Tree V O → Tree V O → Tree V O
compared op a b = call (ours (Binary (operator_of op))) (tree a (tree b no_trees))

abbrev pub negated : {V O : Type 0} → Tree V O → Tree V O
negated a = call (ours Not) (tree a no_trees)

-- not (a op b) and a inverse b have the same outcome in every row: the same value, or the same
-- fault
abbrev pub InverseNegates : {V O : Type 0} → Meaning V O → Type 0
InverseNegates {V} {O} m =
    (op : CompareOperator) (a b : Tree V O) (cs : List ColumnView) (i : ℕ)
    → eval m cs (negated (compared op a b)) i ≡ eval m cs (compared (compare_inverse op) a b) i

abbrev pub operated : {V O : Type 0} → Operator → Tree V O → Tree V O → Tree V O
operated op a b = call (ours (Binary op)) (tree a (tree b no_trees))

-- the same value, or a fault on both sides
abbrev pub SameOrFault : Outcome → Outcome → Type 0
SameOrFault (gives v) (gives w) = v ≡ w
SameOrFault (faults f) (faults g) = ⊤
SameOrFault x y = ⊥

-- a op b and b swapped a have the same value or both fault, in every row, wherever op can be
-- swapped
abbrev pub SwapTurns : {V O : Type 0} → Meaning V O → Type 0
SwapTurns {V} {O} m =
    (op swapped : Operator) (a b : Tree V O) (cs : List ColumnView) (i : ℕ)
    → swap_of op ≡ Some swapped
    → SameOrFault (eval m cs (operated op a b) i) (eval m cs (operated swapped b a) i)

-- a comparison has no type requirements
pub compared_means : (op : CompareOperator) (ts : List LogicalType) (v w : Value)
    → operator_means (operator_of op) ts (v ∷ w ∷ []) ≡ gives (comparison_value op v w)
compared_means Eq ts v w = refl
compared_means op ts v w = refl

abbrev of_operated : Operator → List LogicalType → Outcome → Outcome → Outcome
of_operated op ts x y =
    then_means (operator_means op ts) (with_first x (with_first y (all_give [])))

abbrev of_negated : Outcome → Outcome
of_negated x =
    let means = λ (vs : List Value). gives (of_one not_value vs) in
    then_means means (with_first x (all_give []))

-- the types of two trees, as passed to a call
abbrev types_of : {V O : Type 0} → Meaning V O → Tree V O → Tree V O → List LogicalType
types_of m a b = types_or_none (tree_types m (tree a (tree b no_trees)))

pub inverse_negates : {V O : Type 0} (m : Meaning V O) → InverseNegates m
inverse_negates m op a b cs i = by (eval m cs a i) (eval m cs b i)
  where
    ts : List LogicalType
    ts = types_of m a b

    by : (x y : Outcome) → of_negated (of_operated (operator_of op) ts x y)
        ≡ of_operated (operator_of (compare_inverse op)) ts x y
    by (faults f) y = refl
    by (gives v) (faults f) = refl
    by (gives v) (gives w) =
        ap of_negated (compared_means op ts v w)
        ∙ ap gives (are_inverse op v w)
        ∙ sym (compared_means (compare_inverse op) ts v w)

no_integer : (t u : LogicalType) → is_integer_type u ≡ false → integer_of_both t u ≡ None
no_integer (integer_type p n) (integer_type q m) h = cc
no_integer t u h = refl

same_either : (p q : PType) (b c : Bool) → ptype_eq p q ≡ b → ptype_eq q p ≡ c
    → cond b (Some p) None ≡ cond c (Some q) None
same_either p q true true e f = ap Some (ptype_yes p q e)
same_either p q false false e f = refl
same_either p q true false e f =
    let same = ptype_yes p q e in
    let yes : ptype_eq q p ≡ true = ap (λ r. ptype_eq q r) same ∙ ptype_refl q in
    cc
same_either p q false true e f =
    let same = ptype_yes q p f in
    let yes : ptype_eq p q ≡ true = ap (λ r. ptype_eq p r) same ∙ ptype_refl p in
    cc

either_order : (t u : LogicalType) → integer_of_both t u ≡ integer_of_both u t
either_order (integer_type p n) (integer_type q m) = same_either p q _ _ refl refl
either_order (integer_type p n) u = refl
either_order t u = sym (no_integer u t refl)

either_way : (a b : Option LogicalType)
    → integer_of (types_or_none (with_type a (with_type b (Some []))))
    ≡ integer_of (types_or_none (with_type b (with_type a (Some []))))
either_way (Some t) (Some u) = either_order t u
either_way None (Some u) = refl
either_way a b = refl

-- an operator and its swap, over types of one integer type
module _ (ts us : List LogicalType) (same : integer_of ts ≡ integer_of us) (v w : Value) where
  turned_arithmetic : (o q : NumericOperator)
      → ((p : PType) → arithmetic_value o p v w ≡ arithmetic_value q p w v)
      → SameOrFault (arithmetic_of o (integer_of ts) v w) (arithmetic_of q (integer_of us) w v)
  turned_arithmetic o q results =
      subst (λ (a : Option PType).
      SameOrFault (arithmetic_of o (integer_of ts) v w) (arithmetic_of q a w v)) same
      (by (integer_of ts))
    where
      of_result : (r : Option Value) → SameOrFault (value_or_fault o r) (value_or_fault q r)
      of_result None = tt
      of_result (Some x) = refl

      by : (a : Option PType) → SameOrFault (arithmetic_of o a v w) (arithmetic_of q a w v)
      by None = refl
      by (Some p) =
          let here = arithmetic_value o p v w in
          subst (λ (r : Option Value). SameOrFault (value_or_fault o here) (value_or_fault q r))
          (results p) (of_result here)

  turned_pair : (op swapped : Operator) → AreTurned op swapped
      → SameOrFault (operator_means op ts (v ∷ w ∷ [])) (operator_means swapped us (w ∷ v ∷ []))
  turned_pair op swapped t = by (numeric_operator_of op) (numeric_operator_of swapped) t.results
    where
      by : (n k : Option NumericOperator)
          → ((p : PType) (a b : Value) → result_by n p a b ≡ result_by k p b a)
          → SameOrFault (means_by n op ts (v ∷ w ∷ [])) (means_by k swapped us (w ∷ v ∷ []))
      by None None results = t.values v w
      by (Some o) (Some q) results = turned_arithmetic o q (λ p. results p v w)
      by None (Some q) results = let wrong : None ≡ Some null = results I8 null null in cc
      by (Some o) None results = let wrong : Some null ≡ None = results I8 null null in cc

pub swap_turns : {V O : Type 0} (m : Meaning V O) → SwapTurns m
swap_turns m op swapped a b cs i e = by (eval m cs a i) (eval m cs b i)
  where
    ts : List LogicalType
    ts = types_of m a b

    us : List LogicalType
    us = types_of m b a

    by : (x y : Outcome) → SameOrFault (of_operated op ts x y) (of_operated swapped us y x)
    by (gives v) (gives w) =
        turned_pair ts us (either_way (tree_type m a) (tree_type m b)) v w op swapped
        (turned op swapped e)
    by (faults f) (faults g) = tt
    by x y = tt
