-- From the result of a kernel over two operands to that of the operator's call.
use Rattle.std.proofs.Common.{◌≡◌, ℕ, Bool, true, false, List, [], ◌∷◌, length, Some, None, refl, sym}
use Rattle.std.proofs.Common.{ap, ◌∙◌, subst, cond}
use Rattle.std.specs.Prelude.{IsSome, slice_get, ◌||◌, ◌&&◌, Result}
use Rattle.vortex_errors.specs.declared.error.VortexError.{VortexError}
use Rattle.vortex_types.specs.LogicalTypes.{LogicalType, bool_type, is_nullable, is_bool_type}
use Rattle.vortex_types.specs.TypeEquality.{alike_types}
use Rattle.vortex_errors.specs.Answers.{Answers}
use Rattle.vortex_errors.proofs.Answering.{Answers-weaker}
use Rattle.vortex_columns.specs.ColumnView.{ColumnView, row}
use Rattle.vortex_operators.specs.declared.operators.Operator.{Operator}
use Rattle.vortex_operators.specs.declared.operators.Operator.TheVariants.{Eq, NotEq, Gt, Gte, Lt}
use Rattle.vortex_operators.specs.declared.operators.Operator.TheVariants.{Lte, And, Or, Add, Sub}
use Rattle.vortex_operators.specs.declared.operators.Operator.TheVariants.{Mul, Div}
use Rattle.vortex_operators.specs.declared.operators.CompareOperator.{CompareOperator}
use Rattle.vortex_operators.specs.Operators.{is_boolean, compare_operator_of}
use Rattle.vortex_operators.specs.OperatorValues.{boolean_value, comparison_type, comparison_value}
use Rattle.vortex_kernels.specs.Comparison.{AnswersCompare, RefusesCompare, uneven, unlike}
use Rattle.vortex_kernels.specs.Boolean.{are_bools, AnswersBoolean, RefusesBoolean, no_operator}
use Rattle.vortex_kernels.specs.Boolean.{no_bools}
use Rattle.vortex_interface.specs.Outcomes.{gives, HasCallRows, IsCallFault, types_in, values_at}
use Rattle.vortex_interface.specs.Shipped.{Binary, shipped_means}
use Rattle.vortex_interface.specs.Shipped.BinaryFunction.{both_bool, compared_type, operator_type}
use Rattle.vortex_interface.specs.Shipped.BinaryFunction.{value_by, operator_value, means_by}
use Rattle.vortex_operators.specs.Arithmetic.{numeric_operator_of}
use Rattle.vortex_interface.specs.Answering.{AnswersShipped}
use Rattle.vortex_shipped.proofs.CallRows.{call_rows}
use Rattle.vortex_shipped.proofs.Inputs.{two_inputs}

-- the call's column, and its fault
abbrev Rows : Operator → List ColumnView → ℕ → ColumnView → Type 0
Rows op = HasCallRows (operator_type op) (shipped_means (Binary op))

abbrev Fault : Operator → List ColumnView → ℕ → VortexError → Type 0
Fault op = IsCallFault (shipped_means (Binary op))

-- the two inputs of an operator that accepts them
pub record TwoBools (op : Operator) (cs : List ColumnView) (l r : ColumnView) : Type 0 where
  pub operator : is_boolean op ≡ true
  pub both : cs ≡ l ∷ r ∷ []
  pub left : is_bool_type l.dtype ≡ true
  pub right : is_bool_type r.dtype ≡ true

accepted_operator : (op : Operator) → compare_operator_of op ≡ None → numeric_operator_of op ≡ None
    → is_boolean op ≡ true
accepted_operator And c a = refl
accepted_operator Or c a = refl
accepted_operator op c a = cc

no_numeric : (op : Operator) → is_boolean op ≡ true → numeric_operator_of op ≡ None
no_numeric And h = refl
no_numeric Or h = refl
no_numeric op h = cc

operator_value-boolean : (op : Operator) → is_boolean op ≡ true
    → operator_value op ≡ boolean_value op
operator_value-boolean And h = refl
operator_value-boolean Or h = refl
operator_value-boolean op h = cc

operator_type-boolean : (op : Operator) (ts : List LogicalType) → is_boolean op ≡ true
    → operator_type op ts ≡ both_bool ts
operator_type-boolean And ts h = refl
operator_type-boolean Or ts h = refl
operator_type-boolean op ts h = cc

both_of : (a b : LogicalType) → IsSome (both_bool (a ∷ b ∷ []))
    → (is_bool_type a ≡ true) × (is_bool_type b ≡ true)
both_of (bool_type n) (bool_type m) h = (refl, refl)
both_of a b h = cc

pub two_bools : (op : Operator) (cs : List ColumnView) (l r : ColumnView)
    → compare_operator_of op ≡ None → numeric_operator_of op ≡ None → length cs ≡ 2
    → IsSome (operator_type op (types_in cs))
    → slice_get cs 0 ≡ Some l → slice_get cs 1 ≡ Some r → TwoBools op cs l r
two_bools op cs l r none other n h p q =
    let both = two_inputs cs l r n p q in
    let o = accepted_operator op none other in
    let typed = subst (λ xs. IsSome (operator_type op (types_in xs))) both h in
    let bools = both_of l.dtype r.dtype
    (subst IsSome (operator_type-boolean op (l.dtype ∷ r.dtype ∷ []) o) typed) in
    record { operator = o; both = both; left = bools.0; right = bools.1 }

both_type : (a b : LogicalType) → is_bool_type a ≡ true → is_bool_type b ≡ true
    → both_bool (a ∷ b ∷ []) ≡ Some (bool_type (is_nullable a || is_nullable b))
both_type (bool_type n) (bool_type m) h k = refl
both_type a b h k = cc

boolean_rows : (op : Operator) (cs : List ColumnView) (l r c : ColumnView) (n : ℕ)
    → TwoBools op cs l r → length l.rows ≡ n → AnswersBoolean op l r c → Rows op cs n c
boolean_rows op cs l r c n two e h =
    call_rows (Binary op) cs (l ∷ r ∷ []) two.both n (length l.rows) e
    (bool_type (is_nullable l.dtype || is_nullable r.dtype))
    (λ i. boolean_value op (row l.rows i) (row r.rows i))
    (operator_type-boolean op (l.dtype ∷ r.dtype ∷ []) two.operator
    ∙ both_type l.dtype r.dtype two.left two.right)
    (λ i. ap (λ o. means_by o op (types_in (l ∷ r ∷ [])) (values_at (l ∷ r ∷ []) i))
    (no_numeric op two.operator)
    ∙ (λ j. gives (operator_value-boolean op two.operator j (row l.rows i) (row r.rows i))))
    c h.rows

never_refused : (op : Operator) (cs : List ColumnView) (l r : ColumnView) (e : VortexError)
    → TwoBools op cs l r → RefusesBoolean op l r e → ⊥
never_refused op cs l r e two (no_operator p q) = let o = two.operator in cc
never_refused op cs l r e two (no_bools o p q) =
    let a = two.left in
    let b = two.right in
    let k : are_bools l r ≡ true = (λ i. a i && b i) in cc

-- And or Or of a call's inputs is the call's result
pub boolean_call : (op : Operator) (cs : List ColumnView) (l r : ColumnView) (n : ℕ)
    (answer : Result ColumnView VortexError)
    → TwoBools op cs l r → length l.rows ≡ n
    → Answers answer (AnswersBoolean op l r) (RefusesBoolean op l r)
    → AnswersShipped (Binary op) cs n answer
boolean_call op cs l r n answer two e h =
    Answers-weaker answer (AnswersBoolean op l r) (Rows op cs n) (RefusesBoolean op l r)
    (Fault op cs n)
    (λ c p. boolean_rows op cs l r c n two e p)
    (λ f p. absurd (never_refused op cs l r f two p))
    h

-- the two inputs of a comparison that accepts them
pub record TwoAlike (op : Operator) (compare : CompareOperator) (cs : List ColumnView)
    (l r : ColumnView) : Type 0 where
  pub comparison : compare_operator_of op ≡ Some compare
  pub both : cs ≡ l ∷ r ∷ []
  pub alike : alike_types l.dtype r.dtype ≡ true

operator_type-comparison : (op : Operator) (compare : CompareOperator) (ts : List LogicalType)
    → compare_operator_of op ≡ Some compare → operator_type op ts ≡ compared_type ts
operator_type-comparison Eq compare ts h = refl
operator_type-comparison NotEq compare ts h = refl
operator_type-comparison Gt compare ts h = refl
operator_type-comparison Gte compare ts h = refl
operator_type-comparison Lt compare ts h = refl
operator_type-comparison Lte compare ts h = refl
operator_type-comparison op compare ts h = cc

not_numeric : (op : Operator) (compare : CompareOperator) → compare_operator_of op ≡ Some compare
    → numeric_operator_of op ≡ None
not_numeric Add compare h = cc
not_numeric Sub compare h = cc
not_numeric Mul compare h = cc
not_numeric Div compare h = cc
not_numeric op compare h = refl

alike_of : (t u : LogicalType) → IsSome (compared_type (t ∷ u ∷ [])) → alike_types t u ≡ true
alike_of t u = by (alike_types t u)
  where
    by : (b : Bool) → IsSome (cond b (Some (comparison_type t u)) None) → b ≡ true
    by true h = refl
    by false h = cc

pub two_alike : (op : Operator) (compare : CompareOperator) (cs : List ColumnView)
    (l r : ColumnView)
    → compare_operator_of op ≡ Some compare → length cs ≡ 2 → IsSome (operator_type op (types_in cs))
    → slice_get cs 0 ≡ Some l → slice_get cs 1 ≡ Some r → TwoAlike op compare cs l r
two_alike op compare cs l r o n h p q =
    let both = two_inputs cs l r n p q in
    let typed = subst (λ xs. IsSome (operator_type op (types_in xs))) both h in
    let some = subst IsSome (operator_type-comparison op compare (l.dtype ∷ r.dtype ∷ []) o) typed in
    record { comparison = o; both = both; alike = alike_of l.dtype r.dtype some }

compared_is : (t u : LogicalType) → alike_types t u ≡ true
    → compared_type (t ∷ u ∷ []) ≡ Some (comparison_type t u)
compared_is t u e = ap (λ b. cond b (Some (comparison_type t u)) None) e

comparison_rows : (op : Operator) (compare : CompareOperator) (cs : List ColumnView)
    (l r c : ColumnView) (n : ℕ)
    → TwoAlike op compare cs l r → length l.rows ≡ n → AnswersCompare compare l r c → Rows op cs n c
comparison_rows op compare cs l r c n two e h =
    call_rows (Binary op) cs (l ∷ r ∷ []) two.both n (length l.rows) e
    (comparison_type l.dtype r.dtype)
    (λ i. comparison_value compare (row l.rows i) (row r.rows i))
    (operator_type-comparison op compare (l.dtype ∷ r.dtype ∷ []) two.comparison
    ∙ compared_is l.dtype r.dtype two.alike)
    (λ i. ap (λ o. means_by o op (types_in (l ∷ r ∷ [])) (values_at (l ∷ r ∷ []) i))
    (not_numeric op compare two.comparison)
    ∙ ap (λ o. gives (value_by o op (row l.rows i) (row r.rows i))) two.comparison)
    c h.rows

never_unlike : (op : Operator) (compare : CompareOperator) (cs : List ColumnView)
    (l r : ColumnView) (e : VortexError)
    → TwoAlike op compare cs l r → length l.rows ≡ length r.rows → RefusesCompare l r e → ⊥
never_unlike op compare cs l r e two same (uneven p q) = p same
never_unlike op compare cs l r e two same (unlike p s u q) = let k = two.alike in cc

-- a comparison of a call's inputs is the call's result
pub comparison_call : (op : Operator) (compare : CompareOperator) (cs : List ColumnView)
    (l r : ColumnView) (n : ℕ) (answer : Result ColumnView VortexError)
    → TwoAlike op compare cs l r → length l.rows ≡ n → length r.rows ≡ n
    → Answers answer (AnswersCompare compare l r) (RefusesCompare l r)
    → AnswersShipped (Binary op) cs n answer
comparison_call op compare cs l r n answer two e g h =
    Answers-weaker answer (AnswersCompare compare l r) (Rows op cs n) (RefusesCompare l r)
    (Fault op cs n)
    (λ c p. comparison_rows op compare cs l r c n two e p)
    (λ f p. absurd (never_unlike op compare cs l r f two (e ∙ sym g) p))
    h
