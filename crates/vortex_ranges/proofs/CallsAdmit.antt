-- The ranges of calls of the shipped functions admit their outcomes.
use Rattle.std.specs.Prelude.{List, [], ◌∷◌, Bool, true, false, not}
use Rattle.vortex_types.specs.LogicalTypes.{LogicalType}
use Rattle.vortex_types.specs.Values.{Value, is_null, truth}
use Rattle.vortex_operators.specs.declared.between.BetweenOptions.{BetweenOptions}
use Rattle.vortex_operators.specs.declared.operators.CompareOperator.{CompareOperator}
use Rattle.vortex_operators.specs.declared.operators.Operator.{Operator}
use Rattle.vortex_operators.specs.declared.operators.Operator.TheVariants.{Eq, NotEq, Gt, Gte, Lt}
use Rattle.vortex_operators.specs.declared.operators.Operator.TheVariants.{Lte, And, Or, Add, Sub}
use Rattle.vortex_operators.specs.declared.operators.Operator.TheVariants.{Mul, Div}
use Rattle.vortex_operators.specs.declared.operators.CompareOperator.TheVariants as compare
use Rattle.vortex_operators.specs.Between.{between_value}
use Rattle.vortex_operators.specs.OperatorValues.{boolean_value, not_value, comparison_value}
use Rattle.vortex_interface.specs.Arguments as arguments
use Rattle.vortex_like.specs.declared.options.LikeOptions.{LikeOptions}
use Rattle.vortex_like.specs.Patterns.{like_value}
use Rattle.vortex_interface.specs.Shipped.{Not, NullTest, Cast, Between, Like}
use Rattle.vortex_interface.specs.Shipped.{shipped_type, shipped_means, row_lawful}
use Rattle.vortex_interface.specs.Shipped.BinaryFunction.{operator_type, operator_means}
use Rattle.vortex_ranges.specs.Ranges.{RangeView, Admits}
use Rattle.vortex_ranges.specs.Truths.{negation, conjunction, disjunction, null_test}
use Rattle.vortex_ranges.specs.Comparing.{comparison}
use Rattle.vortex_ranges.specs.TypeRanges.{of_type}
use Rattle.vortex_ranges.specs.Sound.{AdmitsOne, AdmitsTwo}
use Rattle.vortex_ranges.specs.Calls.{AllAdmit, AdmitsCalls}
use Rattle.vortex_ranges.specs.ShippedCalls.{of_one, of_two, binary_range}
use Rattle.vortex_ranges.specs.ShippedCalls.{not_range, null_test_range, cast_range, between_range}
use Rattle.vortex_ranges.proofs.KleeneTables.{truths_admitted}
use Rattle.vortex_ranges.proofs.Compared.{comparisons_admitted}
use Rattle.vortex_ranges.proofs.OfType.{typed_admitted}
use Rattle.vortex_ranges.proofs.Anything.{anything-value}
use Rattle.vortex_ranges.proofs.Computed.{arithmetic-admits}
use Rattle.vortex_errors.specs.declared.error.NumericOperator.TheVariants as numeric

-- a function of values, of as many arguments as there are ranges, or of another number
one-admits : (f : Value → Value) (range : RangeView → RangeView) → AdmitsOne f range
    → (rs : List RangeView) (vs : List Value) → AllAdmit rs vs
    → Admits (of_one range rs) (arguments.of_one f vs)
one-admits f range p (r ∷ []) (v ∷ []) h = p r v h.0
one-admits f range p (r ∷ []) [] h = absurd h
one-admits f range p (r ∷ []) (v ∷ w ∷ vs) h = absurd h.1
one-admits f range p rs vs h = anything-value (arguments.of_one f vs)

two-admits : (f : Value → Value → Value) (range : RangeView → RangeView → RangeView)
    → AdmitsTwo f range → (rs : List RangeView) (vs : List Value) → AllAdmit rs vs
    → Admits (of_two range rs) (arguments.of_two f vs)
two-admits f range p (r ∷ s ∷ []) (v ∷ w ∷ []) h = p r s v w h.0 h.1.0
two-admits f range p (r ∷ s ∷ []) [] h = absurd h
two-admits f range p (r ∷ s ∷ []) (v ∷ []) h = absurd h.1
two-admits f range p (r ∷ s ∷ []) (v ∷ w ∷ x ∷ vs) h = absurd h.1.1
two-admits f range p rs vs h = anything-value (arguments.of_two f vs)

compared : (op : CompareOperator) (rs : List RangeView) (vs : List Value) → AllAdmit rs vs
    → Admits (of_two (comparison op) rs) (arguments.of_two (comparison_value op) vs)
compared op = two-admits (comparison_value op) (comparison op) (comparisons_admitted.compared op)

pub binary-admits : (op : Operator) (t : LogicalType) (rs : List RangeView)
    → AdmitsCalls (operator_type op) (operator_means op) t rs (binary_range op t rs)
binary-admits And t rs ts vs e h a =
    two-admits (boolean_value And) conjunction truths_admitted.and_range rs vs a
binary-admits Or t rs ts vs e h a =
    two-admits (boolean_value Or) disjunction truths_admitted.or_range rs vs a
binary-admits Eq t rs ts vs e h a = compared compare.Eq rs vs a
binary-admits NotEq t rs ts vs e h a = compared compare.NotEq rs vs a
binary-admits Gt t rs ts vs e h a = compared compare.Gt rs vs a
binary-admits Gte t rs ts vs e h a = compared compare.Gte rs vs a
binary-admits Lt t rs ts vs e h a = compared compare.Lt rs vs a
binary-admits Lte t rs ts vs e h a = compared compare.Lte rs vs a
binary-admits Add t rs ts vs e h a = arithmetic-admits numeric.Add t rs ts vs e h a
binary-admits Sub t rs ts vs e h a = arithmetic-admits numeric.Sub t rs ts vs e h a
binary-admits Mul t rs ts vs e h a = arithmetic-admits numeric.Mul t rs ts vs e h a
binary-admits Div t rs ts vs e h a = arithmetic-admits numeric.Div t rs ts vs e h a

pub not-admits : (t : LogicalType) (rs : List RangeView)
    → AdmitsCalls (shipped_type Not) (shipped_means Not) t rs (not_range rs)
not-admits t rs ts vs e h a = one-admits not_value negation truths_admitted.not_range rs vs a

pub null_test-admits : (negated : Bool) (t : LogicalType) (rs : List RangeView)
    → AdmitsCalls (shipped_type (NullTest negated)) (shipped_means (NullTest negated)) t rs
    (null_test_range negated rs)
null_test-admits false t rs ts vs e h a =
    one-admits (λ v. truth (is_null v)) (null_test false) (truths_admitted.null_range false) rs vs a
null_test-admits true t rs ts vs e h a =
    one-admits (λ v. truth (not (is_null v))) (null_test true) (truths_admitted.null_range true) rs
    vs a

pub cast-admits : (t : LogicalType) (rs : List RangeView)
    → AdmitsCalls (shipped_type Cast) (shipped_means Cast) t rs (cast_range rs)
cast-admits t rs ts vs e h a = one-admits (λ v. v) (λ r. r) (λ r v p. p) rs vs a

module _ (options : BetweenOptions) where
  three-admits : (rs : List RangeView) (vs : List Value) → AllAdmit rs vs
      → Admits (between_range options rs)
      (arguments.of_three (λ x lower upper. between_value options lower x upper) vs)
  three-admits (q ∷ r ∷ s ∷ []) (v ∷ w ∷ x ∷ []) h =
      comparisons_admitted.between options r q s w v x h.1.0 h.0 h.1.1.0
  three-admits (q ∷ r ∷ s ∷ []) [] h = absurd h
  three-admits (q ∷ r ∷ s ∷ []) (v ∷ []) h = absurd h.1
  three-admits (q ∷ r ∷ s ∷ []) (v ∷ w ∷ []) h = absurd h.1.1
  three-admits (q ∷ r ∷ s ∷ []) (v ∷ w ∷ x ∷ y ∷ vs) h = absurd h.1.1.1
  three-admits rs vs h =
      anything-value (arguments.of_three (λ x lower upper. between_value options lower x upper) vs)

  pub between-admits : (t : LogicalType) (rs : List RangeView)
      → AdmitsCalls (shipped_type (Between options)) (shipped_means (Between options)) t rs
      (between_range options rs)
  between-admits t rs ts vs e h a = three-admits rs vs a

-- of Like the type alone
pub like-typed : (options : LikeOptions) (t : LogicalType) (rs : List RangeView)
    → AdmitsCalls (shipped_type (Like options)) (shipped_means (Like options)) t rs
    (of_type false t)
like-typed options t rs ts vs e h a =
    typed_admitted.typed false t (arguments.of_two (like_value options) vs)
    ((row_lawful (Like options)).typed ts t vs e h)
