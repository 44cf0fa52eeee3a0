-- The result of two constants, in each row.
use Rattle.std.proofs.Common.{◌≡◌, ◌≢◌, ℕ, ◌<◌, Bool, true, false, Option, Some, None, length, refl}
use Rattle.std.proofs.Common.{sym, ap, ◌∙◌, cond, arith, rules}
use Rattle.std.specs.Prelude.{◌||◌, ℤ, not, Result}
use Rattle.std.specs.Bool.{FalseIff}
use Rattle.vortex_types.specs.declared.dtype.PType.{PType}
use Rattle.vortex_errors.specs.declared.error.NumericOperator.{NumericOperator}
use Rattle.vortex_errors.specs.declared.error.VortexError.{VortexError}
use Rattle.vortex_errors.specs.declared.error.VortexError.TheVariants.{Arithmetic}
use Rattle.vortex_errors.specs.Answers.{Answers, AnswersUnlessMemory}
use Rattle.vortex_errors.proofs.Answering.{Answers-weaker}
use Rattle.vortex_types.specs.LogicalTypes.{LogicalType, integer_type, is_nullable}
use Rattle.vortex_types.specs.LogicalTypes.{with_nullability}
use Rattle.vortex_types.specs.TypeEquality.{ptype_eq}
use Rattle.vortex_types.specs.declared.scalar_value.ScalarValue.{the_lemmas}
use Rattle.vortex_types.specs.declared.scalar_value.ScalarValue.TheVariants.{Int}
use Rattle.vortex_types.specs.ValueOf.{value_of}
use Rattle.vortex_types.specs.ScalarView.{ScalarView}
use Rattle.vortex_types.specs.Values.{number}
use Rattle.vortex_columns.specs.ColumnView.{ColumnView, row, constant_column}
use Rattle.vortex_operators.specs.Arithmetic.{held, arithmetic_value, integer_of_both}
use Rattle.vortex_kernels.specs.ArithmeticIntegers.{FitsResult, AnswersExact}
use Rattle.vortex_kernels.specs.Comparison.{IsConstantOf}
use Rattle.vortex_columns.specs.ValidRows.{either_nullable}
use Rattle.vortex_kernels.specs.Numeric.{AnswersNumeric, RefusesNumeric, faulty, IsExactOf}
use Rattle.vortex_kernels.proofs.Calculating.{held_result, held_none}
use Rattle.vortex_kernels.proofs.Comparing.{constant_has_rows}

-- the integer type of both sides, with any nullability
integer_form : (t u : LogicalType) (p : PType) (m : Bool) → integer_of_both t u ≡ Some p
    → with_nullability t m ≡ integer_type p m
integer_form (integer_type q n) (integer_type r k) p m e = by (ptype_eq q r) e
  where
    by : (b : Bool) → cond b (Some q) None ≡ Some p → integer_type q m ≡ integer_type p m
    by true h = let same : q ≡ p = cc in ap (λ (x : PType). integer_type x m) same
    by false h = cc
integer_form t u p m e = cc

-- the same, nullable if either side is
pub either_form : (l r : ColumnView) (p : PType) (t u : LogicalType) (m x y : Bool)
    → integer_of_both l.dtype r.dtype ≡ Some p → t ≡ l.dtype → u ≡ with_nullability t m
    → m ≡ (x || y) → x ≡ is_nullable l.dtype → y ≡ is_nullable r.dtype
    → u ≡ integer_type p (either_nullable l r)
either_form l r p t u m x y types same is either left right =
    is
    ∙ ap (λ (v : LogicalType). with_nullability v m) same
    ∙ integer_form l.dtype r.dtype p m types
    ∙ ap (integer_type p) (either ∙ (λ i. left i || right i))

-- the value of a number
pub int_value : (z : ℤ) → value_of (Int z) ≡ number z
int_value z = search (rules, the_lemmas)

-- a flag that differs from the default
pub is_told : (unlike same fault : Bool) → unlike ≡ not same → same ≡ not fault → unlike ≡ true
    → fault ≡ true
is_told unlike same true e f h = refl
is_told unlike same false e f h =
    let turned : unlike ≡ false = e ∙ ap not f in
    cc

pub told_not : (fault : Bool) (P : Type 0) → FalseIff fault P → fault ≡ true → ¬ P
told_not true P h e = h
told_not false P h e = cc

pub not_told : (fault : Bool) (P : Type 0) → FalseIff fault P → fault ≡ false → P
not_told false P h e = h
not_told true P h e = cc

module _ (op : NumericOperator) (p : PType) (exact : ℤ → ℤ → Option ℤ) (a b : ℤ)
    (l r : ColumnView) (is : IsExactOf op exact)
    (types : integer_of_both l.dtype r.dtype ≡ Some p) (lengths : length l.rows ≡ length r.rows)
    (left : IsConstantOf (number a) l) (right : IsConstantOf (number b) r)
  where
    result_in : (i : ℕ) → i < length l.rows
        → arithmetic_value op p (row l.rows i) (row r.rows i) ≡ held p (exact a b)
    result_in i lt =
        (λ j. arithmetic_value op p (left i lt j) (right i (omega (arith, lengths, lt)) j))
        ∙ sym (ap (held p) (is a b))

    -- where there is a row, and the type does not hold the result
    pub constants_refuse : length l.rows ≢ 0 → ¬ FitsResult p (exact a b)
        → RefusesNumeric op l r (Arithmetic op)
    constants_refuse some fault =
        let lt : 0 < length l.rows = omega (arith, some) in
        faulty p 0 types lengths lt (result_in 0 lt ∙ held_none p (exact a b) fault) refl

    pub constants_answer : (z : ℤ) (s : ScalarView) (answer : Result ColumnView VortexError)
        → s ≡ record { dtype = integer_type p (either_nullable l r); value = number z }
        → (0 < length l.rows → FitsResult p (exact a b)) → AnswersExact p (exact a b) z
        → AnswersUnlessMemory answer (λ c. c ≡ constant_column s (length l.rows))
        → Answers answer (AnswersNumeric op l r) (RefusesNumeric op l r)
    constants_answer z s answer made fits answered h =
        Answers-weaker answer (λ c. c ≡ constant_column s (length l.rows)) (AnswersNumeric op l r)
        (λ e. ⊥) (RefusesNumeric op l r)
        (λ c e.
        let rows = constant_has_rows s (length l.rows) c e in
        record {
          ptype = p;
          accepted = types;
          lengths = lengths;
          rows = record {
            dtype = rows.dtype ∙ ap (λ (x : ScalarView). x.dtype) made;
            count = rows.count;
            each = λ i lt.
                result_in i lt
                ∙ held_result p (exact a b) z (fits (omega (arith, lt))) answered
                ∙ ap Some (sym (rows.each i lt ∙ ap (λ (x : ScalarView). x.value) made));
          };
        })
        (λ e k. absurd k) h
