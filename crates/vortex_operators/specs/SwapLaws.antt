-- An operator, and its swap.
use Rattle.std.specs.Prelude.{◌≡◌, ℤ, Bool, true, false, Option, Some, None, refl}
use Rattle.std.proofs.Common.{ap, sym, subst}
use Rattle.std.proofs.Math.IntN.{+ℤ_comm, *ℤ_comm}
use Rattle.vortex_types.specs.declared.dtype.PType.{PType}
use Rattle.vortex_errors.specs.declared.error.NumericOperator.{NumericOperator}
use Rattle.vortex_errors.specs.declared.error.NumericOperator.TheVariants as numeric
use Rattle.vortex_types.specs.Values.{Value, null, truth, number, text, bytes, list, truth_of}
use Rattle.vortex_types.specs.Values.{truth_or_null}
use Rattle.vortex_operators.specs.declared.operators.Operator.{Operator}
use Rattle.vortex_operators.specs.declared.operators.Operator.TheVariants.{Eq, NotEq, Gt, Gte, Lt}
use Rattle.vortex_operators.specs.declared.operators.Operator.TheVariants.{Lte, And, Or, Add, Sub}
use Rattle.vortex_operators.specs.declared.operators.Operator.TheVariants.{Mul, Div}
use Rattle.vortex_operators.specs.declared.operators.CompareOperator.TheVariants as compare
use Rattle.vortex_operators.specs.declared.operators.CompareOperator.{CompareOperator}
use Rattle.vortex_operators.specs.Arithmetic.{exact_result, held, arithmetic_value}
use Rattle.vortex_operators.specs.Arithmetic.{numeric_operator_of}
use Rattle.vortex_operators.specs.Operators.{swap_of, operator_of, compare_swap}
use Rattle.vortex_operators.specs.Kleene.{kleene_and, kleene_or}
use Rattle.vortex_operators.specs.OperatorValues.{operator_value}
use Rattle.vortex_operators.specs.ComparisonLaws.{are_swapped}

-- the exact result of an operator of arithmetic; none for others
abbrev pub result_by : Option NumericOperator → PType → Value → Value → Option Value
result_by None p v w = None
result_by (Some o) p v w = arithmetic_value o p v w

-- a op b is b swapped a, for all values, nulls included: the same value for And, Or and the
-- comparisons; for arithmetic the same exact result in every type, or none on both sides
pub record AreTurned (op swapped : Operator) : Type 0 where
  pub values : (v w : Value) → operator_value op v w ≡ operator_value swapped w v
  pub results : (p : PType) (v w : Value)
      → result_by (numeric_operator_of op) p v w ≡ result_by (numeric_operator_of swapped) p w v

and_commutes : (a b : Option Bool) → kleene_and a b ≡ kleene_and b a
and_commutes None None = refl
and_commutes None (Some true) = refl
and_commutes None (Some false) = refl
and_commutes (Some true) None = refl
and_commutes (Some true) (Some true) = refl
and_commutes (Some true) (Some false) = refl
and_commutes (Some false) None = refl
and_commutes (Some false) (Some true) = refl
and_commutes (Some false) (Some false) = refl

or_commutes : (a b : Option Bool) → kleene_or a b ≡ kleene_or b a
or_commutes None None = refl
or_commutes None (Some true) = refl
or_commutes None (Some false) = refl
or_commutes (Some true) None = refl
or_commutes (Some true) (Some true) = refl
or_commutes (Some true) (Some false) = refl
or_commutes (Some false) None = refl
or_commutes (Some false) (Some true) = refl
or_commutes (Some false) (Some false) = refl

abbrev is_number : Value → Bool
is_number (number a) = true
is_number v = false

-- null where the value on the right is no number
no_number : (o : NumericOperator) (p : PType) (v w : Value) → is_number w ≡ false
    → arithmetic_value o p v w ≡ Some null
no_number o p (number a) (number b) h = cc
no_number o p (number a) null h = refl
no_number o p (number a) (truth b) h = refl
no_number o p (number a) (text b) h = refl
no_number o p (number a) (bytes b) h = refl
no_number o p (number a) (list b) h = refl
no_number o p null w h = refl
no_number o p (truth a) w h = refl
no_number o p (text a) w h = refl
no_number o p (bytes a) w h = refl
no_number o p (list a) w h = refl

module _ (o : NumericOperator) (commutes : (a b : ℤ) → exact_result o a b ≡ exact_result o b a)
    (p : PType) where
  result_commutes : (v w : Value) → arithmetic_value o p v w ≡ arithmetic_value o p w v
  result_commutes (number a) (number b) = ap (held p) (commutes a b)
  result_commutes (number a) null = refl
  result_commutes (number a) (truth b) = refl
  result_commutes (number a) (text b) = refl
  result_commutes (number a) (bytes b) = refl
  result_commutes (number a) (list b) = refl
  result_commutes null w = sym (no_number o p w null refl)
  result_commutes (truth a) w = sym (no_number o p w (truth a) refl)
  result_commutes (text a) w = sym (no_number o p w (text a) refl)
  result_commutes (bytes a) w = sym (no_number o p w (bytes a) refl)
  result_commutes (list a) w = sym (no_number o p w (list a) refl)

and_turned : AreTurned And And
and_turned = record {
  values = λ v w. ap truth_or_null (and_commutes (truth_of v) (truth_of w));
  results = λ p v w. refl;
}

or_turned : AreTurned Or Or
or_turned = record {
  values = λ v w. ap truth_or_null (or_commutes (truth_of v) (truth_of w));
  results = λ p v w. refl;
}

add_turned : AreTurned Add Add
add_turned = record {
  values = λ v w. refl;
  results = result_commutes numeric.Add (λ a b. ap Some (+ℤ_comm a b));
}

mul_turned : AreTurned Mul Mul
mul_turned = record {
  values = λ v w. refl;
  results = result_commutes numeric.Mul (λ a b. ap Some (*ℤ_comm a b));
}

compared_turned : (op : CompareOperator)
    → AreTurned (operator_of op) (operator_of (compare_swap op))
compared_turned compare.Eq = record { values = are_swapped compare.Eq; results = λ p v w. refl }
compared_turned compare.NotEq = record {
  values = are_swapped compare.NotEq;
  results = λ p v w.
      refl;
}
compared_turned compare.Gt = record { values = are_swapped compare.Gt; results = λ p v w. refl }
compared_turned compare.Gte = record { values = are_swapped compare.Gte; results = λ p v w. refl }
compared_turned compare.Lt = record { values = are_swapped compare.Lt; results = λ p v w. refl }
compared_turned compare.Lte = record { values = are_swapped compare.Lte; results = λ p v w. refl }

pub turned : (op swapped : Operator) → swap_of op ≡ Some swapped → AreTurned op swapped
turned Eq s e = let is : Eq ≡ s = cc in subst (AreTurned Eq) is (compared_turned compare.Eq)
turned NotEq s e = let is : NotEq ≡ s = cc in subst (AreTurned NotEq) is
    (compared_turned compare.NotEq)
turned Gt s e = let is : Lt ≡ s = cc in subst (AreTurned Gt) is (compared_turned compare.Gt)
turned Gte s e = let is : Lte ≡ s = cc in subst (AreTurned Gte) is (compared_turned compare.Gte)
turned Lt s e = let is : Gt ≡ s = cc in subst (AreTurned Lt) is (compared_turned compare.Lt)
turned Lte s e = let is : Gte ≡ s = cc in subst (AreTurned Lte) is (compared_turned compare.Lte)
turned And s e = let is : And ≡ s = cc in subst (AreTurned And) is and_turned
turned Or s e = let is : Or ≡ s = cc in subst (AreTurned Or) is or_turned
turned Add s e = let is : Add ≡ s = cc in subst (AreTurned Add) is add_turned
turned Mul s e = let is : Mul ≡ s = cc in subst (AreTurned Mul) is mul_turned
turned Sub s e = cc
turned Div s e = cc
