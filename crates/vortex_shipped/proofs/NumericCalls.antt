-- From the result of arithmetic over two columns to that of the operator's call.
use Rattle.std.proofs.Common.{◌≡◌, ℕ, ◌<◌, List, [], ◌∷◌, length, Option, Some, None, refl, sym, ap}
use Rattle.std.proofs.Common.{◌∙◌, subst, arith}
use Rattle.std.specs.Prelude.{IsSome, slice_get, ◌||◌, Result}
use Rattle.std.specs.Option.{option_map}
use Rattle.vortex_types.specs.declared.dtype.PType.{PType}
use Rattle.vortex_errors.specs.declared.error.NumericOperator.{NumericOperator}
use Rattle.vortex_errors.specs.declared.error.VortexError.{VortexError}
use Rattle.vortex_types.specs.LogicalTypes.{LogicalType, integer_type, is_nullable}
use Rattle.vortex_errors.specs.Answers.{Answers}
use Rattle.vortex_errors.proofs.Answering.{Answers-weaker}
use Rattle.vortex_columns.specs.ColumnView.{ColumnView, row}
use Rattle.vortex_operators.specs.declared.operators.Operator.{Operator}
use Rattle.vortex_operators.specs.declared.operators.Operator.TheVariants.{Add, Sub, Mul, Div}
use Rattle.vortex_operators.specs.Arithmetic.{numeric_operator_of, integer_of_both}
use Rattle.vortex_kernels.specs.Numeric.{AnswersNumeric, RefusesNumeric, unlike, uneven, faulty}
use Rattle.vortex_kernels.specs.Numeric.{numeric_row}
use Rattle.vortex_interface.specs.Outcomes.{arithmetic, HasCallRows, IsCallFault, types_in, values_at}
use Rattle.vortex_interface.specs.Arithmetic.{arithmetic_type, arithmetic_of, value_or_fault}
use Rattle.vortex_interface.specs.Shipped.{Binary, shipped_means}
use Rattle.vortex_interface.specs.Shipped.BinaryFunction.{operator_type, means_by}
use Rattle.vortex_interface.specs.Answering.{AnswersShipped}
use Rattle.vortex_shipped.proofs.Inputs.{two_inputs}

-- the two inputs of arithmetic that accepts them
pub record TwoIntegers (op : Operator) (o : NumericOperator) (cs : List ColumnView)
    (l r : ColumnView) : Type 0 where
  pub numeric : numeric_operator_of op ≡ Some o
  pub both : cs ≡ l ∷ r ∷ []
  pub ptype : PType
  pub integers : integer_of_both l.dtype r.dtype ≡ Some ptype

operator_type-numeric : (op : Operator) (o : NumericOperator) (ts : List LogicalType)
    → numeric_operator_of op ≡ Some o → operator_type op ts ≡ arithmetic_type ts
operator_type-numeric Add o ts h = refl
operator_type-numeric Sub o ts h = refl
operator_type-numeric Mul o ts h = refl
operator_type-numeric Div o ts h = refl
operator_type-numeric op o ts h = cc

integers_by : (t u : LogicalType) (o : Option PType)
    → IsSome (option_map (λ p. integer_type p (is_nullable t || is_nullable u)) o)
    → (p : PType) × (o ≡ Some p)
integers_by t u None h = cc
integers_by t u (Some p) h = (p, refl)

pub two_integers : (op : Operator) (o : NumericOperator) (cs : List ColumnView) (l r : ColumnView)
    → numeric_operator_of op ≡ Some o → length cs ≡ 2 → IsSome (operator_type op (types_in cs))
    → slice_get cs 0 ≡ Some l → slice_get cs 1 ≡ Some r → TwoIntegers op o cs l r
two_integers op o cs l r numeric n h p q =
    let both = two_inputs cs l r n p q in
    let typed = subst (λ xs. IsSome (operator_type op (types_in xs))) both h in
    let some = subst IsSome (operator_type-numeric op o (l.dtype ∷ r.dtype ∷ []) numeric) typed in
    let integers = integers_by l.dtype r.dtype (integer_of_both l.dtype r.dtype) some in
    record { numeric = numeric; both = both; ptype = integers.0; integers = integers.1 }

module _ (op : Operator) (o : NumericOperator) (cs : List ColumnView) (l r : ColumnView) (n : ℕ)
    (two : TwoIntegers op o cs l r) where
  -- the outcome of a row of the call
  outcome : (i : ℕ) (p : PType) → integer_of_both l.dtype r.dtype ≡ Some p
      → shipped_means (Binary op) (types_in cs) (values_at cs i)
      ≡ value_or_fault o (numeric_row o p l r i)
  outcome i p e =
      ap (λ (ds : List ColumnView). shipped_means (Binary op) (types_in ds) (values_at ds i))
      two.both
      ∙ ap (λ k. means_by k op (types_in (l ∷ r ∷ [])) (values_at (l ∷ r ∷ []) i)) two.numeric
      ∙ ap (λ k. arithmetic_of o k (row l.rows i) (row r.rows i)) e

  abbrev Rows : ColumnView → Type 0
  Rows = HasCallRows (operator_type op) (shipped_means (Binary op)) cs n

  abbrev Fault : VortexError → Type 0
  Fault = IsCallFault (shipped_means (Binary op)) cs n

  numeric_rows : (c : ColumnView) → length l.rows ≡ n → AnswersNumeric o l r c → Rows c
  numeric_rows c e h = record {
    dtype =
        ap (λ ds. operator_type op (types_in ds)) two.both
        ∙ operator_type-numeric op o (l.dtype ∷ r.dtype ∷ []) two.numeric
        ∙ ap (option_map (λ p. integer_type p (is_nullable l.dtype || is_nullable r.dtype)))
        h.accepted
        ∙ ap Some (sym h.rows.dtype);
    count = h.rows.count ∙ e;
    each = λ i lt.
        let below : i < length l.rows = omega (arith, e) in
        outcome i h.ptype h.accepted ∙ ap (value_or_fault o) (h.rows.each i below);
  }

  numeric_fault : (e : VortexError) → length l.rows ≡ n → length r.rows ≡ n
      → RefusesNumeric o l r e → Fault e
  numeric_fault e a b (unlike none is) = let some = two.integers in absurd (differs some none)
    where
      differs : integer_of_both l.dtype r.dtype ≡ Some two.ptype
          → integer_of_both l.dtype r.dtype ≡ None → ⊥
      differs some none = cc
  numeric_fault e a b (uneven p some differ is) = absurd (differ (a ∙ sym b))
  numeric_fault e a b (faulty p i some even below none is) = record {
    at = i;
    below = omega (arith, a);
    fault = arithmetic o;
    here = outcome i p some ∙ ap (value_or_fault o) none;
    told = is;
  }

  -- arithmetic of a call's inputs is the call's result
  pub numeric_call : (answer : Result ColumnView VortexError)
      → length l.rows ≡ n → length r.rows ≡ n
      → Answers answer (AnswersNumeric o l r) (RefusesNumeric o l r)
      → AnswersShipped (Binary op) cs n answer
  numeric_call answer a b h =
      Answers-weaker answer (AnswersNumeric o l r) Rows (RefusesNumeric o l r) Fault
      (λ c p. numeric_rows c a p)
      (λ e p. numeric_fault e a b p)
      h
