-- Rows of two operands calculated one by one, and the column of the results.
use Rattle.std.proofs.Common.{◌≡◌, ℕ, ◌<◌, Bool, true, false, List, length, map, Option, Some, None}
use Rattle.std.proofs.Common.{ap, sym, cond, subst}
use Rattle.std.specs.Prelude.{ℤ, Result, Ok, Err, IfSome, IsSome}
use Rattle.std.specs.Result.{result_ok}
use Rattle.vortex_errors.specs.declared.error.NumericOperator.{NumericOperator}
use Rattle.vortex_errors.specs.declared.error.VortexError.{VortexError}
use Rattle.vortex_errors.specs.declared.error.VortexError.TheVariants.{InvalidColumn}
use Rattle.vortex_errors.specs.Answers.{AnswersWhere}
use Rattle.vortex_types.specs.declared.dtype.PType.{PType}
use Rattle.vortex_types.specs.LogicalTypes.{LogicalType, integer_type}
use Rattle.vortex_types.specs.TypeEquality.{ptype_eq}
use Rattle.vortex_types.specs.Values.{number}
use Rattle.vortex_columns.specs.ColumnView.{ColumnView, IsIntegerType, row, IsUnlessNull}
use Rattle.vortex_columns.specs.Made.{int_column}
use Rattle.vortex_columns.specs.ValidityView.{ValidityView, FitsRows}
use Rattle.vortex_columns.specs.ValidRows.{IsJointValidity, either_nullable}
use Rattle.vortex_operators.specs.Arithmetic.{integer_of_both}
use Rattle.vortex_kernels.specs.Numeric.{AnswersNumeric, IsExactOf, row_results, AreResults}
use Rattle.vortex_kernels.specs.Numeric.{TellsFaults}
use Rattle.vortex_kernels.proofs.Calculating.{numeric_answers}
use Rattle.yurkije_lent.specs.Arithmetic.{HasExactRows}
use Rattle.yurkije_lent.proofs.Optional.{some_weaker}

-- the integer type of both sides, where the left one has it
pub both_typed : (p : PType) (t u : LogicalType) → IsIntegerType p t → IsSome (integer_of_both t u)
    → integer_of_both t u ≡ Some p
both_typed p (integer_type q n) (integer_type r m) is some = by (ptype_eq q r) some
  where
    by : (b : Bool) → IsSome (cond b (Some q) None) → cond b (Some q) None ≡ Some p
    by true s = ap Some is
    by false s = cc
both_typed p t u is some = cc

-- the operator whose result this is
pub of_operator : (op : NumericOperator) (exact : ℤ → ℤ → Option ℤ) (l r : ColumnView)
    (o : Option ColumnView) → IsExactOf op exact → IfSome o (HasExactRows exact l r)
    → IfSome o (AnswersNumeric op l r)
of_operator op exact l r o is =
    some_weaker o (HasExactRows exact l r) (AnswersNumeric op l r) (λ c h. h op is)

module _ (p : PType) (exact : ℤ → ℤ → Option ℤ) (left right : ℕ → ℤ) (l r : ColumnView)
    (types : integer_of_both l.dtype r.dtype ≡ Some p) (lengths : length l.rows ≡ length r.rows)
    (on_left : (i : ℕ) → i < length l.rows → IsUnlessNull (row l.rows i) (number (left i)))
    (on_right : (i : ℕ) → i < length l.rows → IsUnlessNull (row r.rows i) (number (right i)))
  where
    -- the column of the results of rows of which none faults
    pub calculated_rows : {A : Type 0} (f : A → ℤ) (xs : List A) (told : Bool) (v : ValidityView)
        (a : Result ColumnView VortexError) (o : Option ColumnView)
        → AreResults p (row_results exact left right) (length l.rows) (map f xs)
        → TellsFaults p (row_results exact left right) (length l.rows) told → told ≡ false
        → IsJointValidity (either_nullable l r) l r v
        → AnswersWhere a (FitsRows v (length xs)) (λ c. c ≡ int_column p f xs v) InvalidColumn
        → o ≡ result_ok a → IfSome o (HasExactRows exact l r)
    calculated_rows f xs told v (Ok c) o results tells none valid answered e =
        subst (λ (u : Option ColumnView). IfSome u (HasExactRows exact l r)) (sym e)
        (λ op is.
        numeric_answers op p exact left right l r is on_left on_right types lengths f xs v (Ok c)
        results (λ i lt pair. tells none i lt) valid answered)
    calculated_rows f xs told v (Err fault) o results tells none valid answered e =
        subst (λ (u : Option ColumnView). IfSome u (HasExactRows exact l r)) (sym e) tt
