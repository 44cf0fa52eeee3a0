-- The operators of two operands: Kleene's And and Or, the comparisons by the order of values, and
-- exact arithmetic.
use Rattle.std.specs.Prelude.{◌≡◌, ℕ, zero, suc, List, [], ◌∷◌, Option, Some, None, Bool, true}
use Rattle.std.specs.Prelude.{◌++◌, false, ◌||◌, not, codes, Any, if◌then◌else◌, refl}
use Rattle.std.specs.Prelude.{slice_index_or}
use Rattle.std.proofs.Common.{sym, ap, ◌∙◌, subst, cond}
use Rattle.vortex_errors.specs.declared.error.MismatchPlace.{MismatchPlace}
use Rattle.vortex_errors.specs.declared.error.MismatchPlace.TheVariants as place
use Rattle.vortex_errors.specs.declared.error.NumericOperator.{NumericOperator}
use Rattle.vortex_errors.specs.declared.error.NumericOperator.TheVariants as numeric
use Rattle.vortex_types.specs.LogicalTypes.{LogicalType, bool_type, is_nullable}
use Rattle.vortex_types.specs.Order.{compare_values}
use Rattle.vortex_types.specs.TypeEquality.{alike_types}
use Rattle.vortex_types.specs.Values.{Value, null, truth, truth_of, is_null}
use Rattle.vortex_types.specs.Typing.{HasType}
use Rattle.vortex_types.proofs.NullValues.{not_null}
use Rattle.vortex_operators.specs.declared.operators.Operator.{Operator}
use Rattle.vortex_operators.specs.declared.operators.Operator.TheVariants.{Eq, NotEq, Gt, Gte, Lt}
use Rattle.vortex_operators.specs.declared.operators.Operator.TheVariants.{Lte, And, Or, Add, Sub}
use Rattle.vortex_operators.specs.declared.operators.Operator.TheVariants.{Mul, Div}
use Rattle.vortex_operators.specs.declared.operators.CompareOperator.{CompareOperator}
use Rattle.vortex_operators.specs.declared.operators.CompareOperator.TheVariants as compare
use Rattle.vortex_operators.specs.Operators.{is_arithmetic, is_boolean, text_of, operator_named}
use Rattle.vortex_operators.specs.Operators.{all_operators}
use Rattle.vortex_operators.specs.Kleene.{kleene}
use Rattle.vortex_operators.specs.OperatorValues.{boolean_value, comparison_value, comparison_type}
use Rattle.vortex_operators.specs.OperatorValues.{holds}
pub use Rattle.vortex_operators.specs.OperatorValues.{value_by, operator_value}
use Rattle.vortex_operators.proofs.KleeneNulls.{allowed, kleene_allowed}
use Rattle.vortex_operators.specs.Arithmetic.{numeric_operator_of}
use Rattle.vortex_interface.specs.Outcomes.{Outcome, gives, faults, Fault, GivesValue, GivesType}
use Rattle.vortex_interface.specs.Outcomes.{GivesNull}
use Rattle.vortex_interface.specs.Meaning.{HaveTypes, AreAlike}
use Rattle.vortex_interface.specs.Arithmetic.{arithmetic_type, arithmetic_means, arithmetic_typed}
use Rattle.vortex_interface.specs.Arithmetic.{arithmetic_alike, arithmetic_nullable}
use Rattle.vortex_interface.specs.Arithmetic.{arithmetic_null, arithmetic_fault}
use Rattle.vortex_interface.specs.Arguments.{of_two, two_there, either_of, or_either}
use Rattle.vortex_interface.specs.Arguments.{null_of_two, has_bool}
use Rattle.vortex_interface.specs.RowFunction.{RowFunction, LawfulRow}

abbrev pub binary_id : List ℕ
binary_id = codes "vortex.binary"

abbrev pub operand_name : ℕ → List ℕ
operand_name zero = codes "lhs"
operand_name (suc i) = codes "rhs"

-- two Bool, nullable if either is
abbrev pub both_bool : List LogicalType → Option LogicalType
both_bool (bool_type n ∷ bool_type m ∷ []) = Some (bool_type (n || m))
both_bool ts = None

-- two types that agree apart from nullability: Bool, nullable if either is
abbrev pub compared_type : List LogicalType → Option LogicalType
compared_type (t ∷ u ∷ []) = if alike_types t u then Some (comparison_type t u) else None
compared_type ts = None

abbrev pub operator_type : Operator → List LogicalType → Option LogicalType
operator_type And ts = both_bool ts
operator_type Or ts = both_bool ts
operator_type Add ts = arithmetic_type ts
operator_type Sub ts = arithmetic_type ts
operator_type Mul ts = arithmetic_type ts
operator_type Div ts = arithmetic_type ts
operator_type o ts = compared_type ts

-- the place in E3 for the types of an operator
abbrev pub operator_place : Operator → MismatchPlace
operator_place And = place.Boolean
operator_place Or = place.Boolean
operator_place Add = place.Arithmetic
operator_place Sub = place.Arithmetic
operator_place Mul = place.Arithmetic
operator_place Div = place.Arithmetic
operator_place o = place.Compare

-- the operator, between its two operands
abbrev pub operator_before : List ℕ → ℕ → List ℕ
operator_before operator zero = codes "("
operator_before operator (suc zero) = codes " " ++ operator ++ codes " "
operator_before operator (suc (suc k)) = codes ")"

-- And and Or weigh more if they are nullable, since rules turn them into more than one call
abbrev pub operator_added : Operator → Bool → ℕ
operator_added And nullable = if nullable then 3 else 1
operator_added Or nullable = if nullable then 3 else 1
operator_added o nullable = 5

-- arithmetic depends on the type of its operands, the others only on their values
abbrev pub means_by : Option NumericOperator → Operator → List LogicalType → List Value → Outcome
means_by None op ts vs = gives (of_two (operator_value op) vs)
means_by (Some o) op ts vs = arithmetic_means o ts vs

abbrev pub operator_means : Operator → List LogicalType → List Value → Outcome
operator_means op = means_by (numeric_operator_of op) op

abbrev pub operator_function : Operator → RowFunction
operator_function o = record {
  id = binary_id;
  count = 2;
  child_name = operand_name;
  return_type = operator_type o;
  place = λ ts. Some (operator_place o);
  means = operator_means o;
  strict = not (is_boolean o);
  infallible = not (is_arithmetic o);
  before = operator_before (text_of o);
  printed = λ k. k;
  added = operator_added o;
}

both_typed : (op : Operator) → is_boolean op ≡ true
    → (ts : List LogicalType) (t : LogicalType) (vs : List Value)
    → both_bool ts ≡ Some t → HaveTypes ts vs → HasType t (of_two (boolean_value op) vs)
both_typed op b (bool_type n ∷ bool_type m ∷ []) t vs e h =
    two_there (bool_type n) (bool_type m) (λ us. HasType t (of_two (boolean_value op) us)) by vs h
  where
    by : (v w : Value) → HasType (bool_type n) v → HasType (bool_type m) w
        → HasType t (boolean_value op v w)
    by v w p q =
        let is : bool_type (n || m) ≡ t = cc in
        let a = truth_of v in
        let c = truth_of w in
        let here = kleene_allowed op n m a c b (allowed n v p) (allowed m w q) in
        let bool = has_bool (n || m) (kleene op a c) here in
        subst (λ (u : LogicalType). HasType u (boolean_value op v w)) is bool
both_typed op b ts t vs e h = cc

typed_unless_null : (n p b : Bool) → (n ≡ false → p ≡ false)
    → HasType (bool_type n) (cond p null (truth b))
typed_unless_null n false b h = tt
typed_unless_null true true b h = refl
typed_unless_null false true b h = let none : true ≡ false = h refl in cc

neither_null : (t u : LogicalType) (v w : Value) → HasType t v → HasType u w
    → (is_nullable t || is_nullable u) ≡ false → (is_null v || is_null w) ≡ false
neither_null t u v w h k e = by (is_nullable t) (is_nullable u) refl refl e
  where
    by : (n m : Bool) → is_nullable t ≡ n → is_nullable u ≡ m
        → (n || m) ≡ false → (is_null v || is_null w) ≡ false
    by true m p q f = cc
    by false true p q f = cc
    by false false p q f = λ i. not_null t v h p i || not_null u w k q i

-- the comparison of two values is a value of Bool, nullable if either type is
pub comparison_has_bool : (op : CompareOperator) (t u : LogicalType) (v w : Value)
    → HasType t v → HasType u w → HasType (comparison_type t u) (comparison_value op v w)
comparison_has_bool op t u v w h k =
    typed_unless_null (is_nullable t || is_nullable u) (is_null v || is_null w)
    (holds op (compare_values v w)) (neither_null t u v w h k)

comparison_typed : (op : CompareOperator) (ts : List LogicalType) (t : LogicalType)
    (vs : List Value)
    → compared_type ts ≡ Some t → HaveTypes ts vs → HasType t (of_two (comparison_value op) vs)
comparison_typed op (t ∷ u ∷ []) a vs e h =
    two_there t u (λ us. HasType a (of_two (comparison_value op) us)) (by (alike_types t u) e) vs h
  where
    by : (b : Bool) → cond b (Some (comparison_type t u)) None ≡ Some a
        → (v w : Value) → HasType t v → HasType u w → HasType a (comparison_value op v w)
    by true g v w p q =
        let is : comparison_type t u ≡ a = cc in
        let bool = comparison_has_bool op t u v w p q in
        subst (λ (x : LogicalType). HasType x (comparison_value op v w)) is bool
    by false g v w p q = cc
comparison_typed op ts a vs e h = cc

operator_typed : (op : Operator) (ts : List LogicalType) (t : LogicalType) (vs : List Value)
    → operator_type op ts ≡ Some t → HaveTypes ts vs → GivesType t (operator_means op ts vs)
operator_typed And ts t vs e h = both_typed And refl ts t vs e h
operator_typed Or ts t vs e h = both_typed Or refl ts t vs e h
operator_typed Add ts t vs e h = arithmetic_typed numeric.Add ts t vs e h
operator_typed Sub ts t vs e h = arithmetic_typed numeric.Sub ts t vs e h
operator_typed Mul ts t vs e h = arithmetic_typed numeric.Mul ts t vs e h
operator_typed Div ts t vs e h = arithmetic_typed numeric.Div ts t vs e h
operator_typed Eq ts t vs e h = comparison_typed compare.Eq ts t vs e h
operator_typed NotEq ts t vs e h = comparison_typed compare.NotEq ts t vs e h
operator_typed Gt ts t vs e h = comparison_typed compare.Gt ts t vs e h
operator_typed Gte ts t vs e h = comparison_typed compare.Gte ts t vs e h
operator_typed Lt ts t vs e h = comparison_typed compare.Lt ts t vs e h
operator_typed Lte ts t vs e h = comparison_typed compare.Lte ts t vs e h

comparison_nullable : (ts : List LogicalType) (t : LogicalType)
    → compared_type ts ≡ Some t → Any (λ a. is_nullable a ≡ true) ts → is_nullable t ≡ true
comparison_nullable (t ∷ u ∷ []) a e h = by (alike_types t u) e
  where
    by : (b : Bool) → cond b (Some (comparison_type t u)) None ≡ Some a → is_nullable a ≡ true
    by true g =
        let is : comparison_type t u ≡ a = cc in
        let one = either_of (λ x. is_nullable x ≡ true) t u h in
        ap is_nullable (sym is) ∙ or_either (is_nullable t) (is_nullable u) one
    by false g = cc
comparison_nullable ts a e h = cc

pub null_compared : (op : CompareOperator) (v : Value) → comparison_value op v null ≡ null
null_compared op null = refl
null_compared op v = refl

comparison_null : (op : CompareOperator) (vs : List Value) → Any (λ v. v ≡ null) vs
    → of_two (comparison_value op) vs ≡ null
comparison_null op = null_of_two (comparison_value op) (λ w. refl) (null_compared op)

operator_nullable : (op : Operator) (ts : List LogicalType) (t : LogicalType)
    → not (is_boolean op) ≡ true → operator_type op ts ≡ Some t
    → Any (λ a. is_nullable a ≡ true) ts → is_nullable t ≡ true
operator_nullable And ts t s e a = cc
operator_nullable Or ts t s e a = cc
operator_nullable Add ts t s e a = arithmetic_nullable ts t e a
operator_nullable Sub ts t s e a = arithmetic_nullable ts t e a
operator_nullable Mul ts t s e a = arithmetic_nullable ts t e a
operator_nullable Div ts t s e a = arithmetic_nullable ts t e a
operator_nullable op ts t s e a = comparison_nullable ts t e a

operator_null : (op : Operator) (ts : List LogicalType) (vs : List Value)
    → not (is_boolean op) ≡ true → Any (λ v. v ≡ null) vs → GivesNull (operator_means op ts vs)
operator_null And ts vs s a = cc
operator_null Or ts vs s a = cc
operator_null Add ts vs s a = arithmetic_null numeric.Add ts vs a
operator_null Sub ts vs s a = arithmetic_null numeric.Sub ts vs a
operator_null Mul ts vs s a = arithmetic_null numeric.Mul ts vs a
operator_null Div ts vs s a = arithmetic_null numeric.Div ts vs a
operator_null Eq ts vs s a = comparison_null compare.Eq vs a
operator_null NotEq ts vs s a = comparison_null compare.NotEq vs a
operator_null Gt ts vs s a = comparison_null compare.Gt vs a
operator_null Gte ts vs s a = comparison_null compare.Gte vs a
operator_null Lt ts vs s a = comparison_null compare.Lt vs a
operator_null Lte ts vs s a = comparison_null compare.Lte vs a

alike_by : (o : Option NumericOperator) (op : Operator) (ts us : List LogicalType) (vs : List Value)
    → AreAlike ts us → means_by o op ts vs ≡ means_by o op us vs
alike_by None op ts us vs same = refl
alike_by (Some o) op ts us vs same = arithmetic_alike o ts us vs same

fault_by : (o : Option NumericOperator) (op : Operator) (ts us : List LogicalType)
    (vs ws : List Value)
    (x y : Fault) → means_by o op ts vs ≡ faults x → means_by o op us ws ≡ faults y → x ≡ y
fault_by None op ts us vs ws x y e g = cc
fault_by (Some o) op ts us vs ws x y e g =
    arithmetic_fault o ts vs x e ∙ sym (arithmetic_fault o us ws y g)

operator_gives : (op : Operator) (ts : List LogicalType) (vs : List Value)
    → not (is_arithmetic op) ≡ true → GivesValue (operator_means op ts vs)
operator_gives Add ts vs h = cc
operator_gives Sub ts vs h = cc
operator_gives Mul ts vs h = cc
operator_gives Div ts vs h = cc
operator_gives op ts vs h = tt

pub operator_lawful : (op : Operator) → LawfulRow (operator_function op)
operator_lawful op = record {
  typed = operator_typed op;
  alike = λ ts us t u vs e g a h k. alike_by (numeric_operator_of op) op ts us vs a;
  strict_type = λ ts t s e a. operator_nullable op ts t s e a;
  strict_value = λ ts t vs s e h a. operator_null op ts vs s a;
  never_faults = λ ts t vs s e h. operator_gives op ts vs s;
  one_fault = λ ts us vs ws x y e g. fault_by (numeric_operator_of op) op ts us vs ws x y e g;
}

-- the words of scripts: the operator's text
abbrev pub operator_called : List (List ℕ) → Option Operator
operator_called (w ∷ []) = operator_named w
operator_called ws = None

-- the number of an operator, in the code of trees
abbrev pub operator_number : Operator → ℕ
operator_number Eq = 0
operator_number NotEq = 1
operator_number Gt = 2
operator_number Gte = 3
operator_number Lt = 4
operator_number Lte = 5
operator_number And = 6
operator_number Or = 7
operator_number Add = 8
operator_number Sub = 9
operator_number Mul = 10
operator_number Div = 11

abbrev pub operator_numbered : ℕ → Operator
operator_numbered n = slice_index_or all_operators n Div

pub operator_back : (o : Operator) → operator_numbered (operator_number o) ≡ o
operator_back Eq = refl
operator_back o = refl
