-- The range of a function of values admits its value of all values that their ranges admit.
use Rattle.std.specs.Prelude.{not, Bool, if◌then◌else◌}
use Rattle.vortex_types.specs.LogicalTypes.{LogicalType}
use Rattle.vortex_types.specs.Typing.{HasType}
use Rattle.vortex_types.specs.Values.{Value, truth, is_null}
use Rattle.vortex_operators.specs.declared.between.BetweenOptions.{BetweenOptions}
use Rattle.vortex_operators.specs.declared.operators.CompareOperator.{CompareOperator}
use Rattle.vortex_operators.specs.declared.operators.Operator.TheVariants.{And, Or}
use Rattle.vortex_operators.specs.Between.{between_value}
use Rattle.vortex_operators.specs.OperatorValues.{boolean_value, not_value, comparison_value}
use Rattle.vortex_ranges.specs.Ranges.{RangeView, Admits, only}
use Rattle.vortex_ranges.specs.Truths.{negation, conjunction, disjunction, null_test}
use Rattle.vortex_ranges.specs.Comparing.{comparison, betweenness}
use Rattle.vortex_ranges.specs.TypeRanges.{of_type, narrowed}

abbrev pub AdmitsOne : (Value → Value) → (RangeView → RangeView) → Type 0
AdmitsOne f range = (r : RangeView) (v : Value) → Admits r v → Admits (range r) (f v)

abbrev pub AdmitsTwo : (Value → Value → Value) → (RangeView → RangeView → RangeView) → Type 0
AdmitsTwo f range = (r s : RangeView) (v w : Value) → Admits r v → Admits s w
    → Admits (range r s) (f v w)

-- whether a value is null, or, if negated, whether it is not
abbrev pub null_tested : Bool → Value → Value
null_tested negated v = truth (if negated then not (is_null v) else is_null v)

pub record AdmitTruths : Type 0 where
  pub not_range : AdmitsOne not_value negation
  pub and_range : AdmitsTwo (boolean_value And) conjunction
  pub or_range : AdmitsTwo (boolean_value Or) disjunction
  pub null_range : (negated : Bool) → AdmitsOne (null_tested negated) (null_test negated)

pub record AdmitComparisons : Type 0 where
  pub compared : (op : CompareOperator) → AdmitsTwo (comparison_value op) (comparison op)
  pub between : (options : BetweenOptions) (q r s : RangeView) (u v w : Value)
      → Admits q u → Admits r v → Admits s w
      → Admits (betweenness options q r s) (between_value options u v w)

pub record AdmitTyped : Type 0 where
  pub itself : (v : Value) → Admits (only v) v
  pub typed : (may_fault : Bool) (t : LogicalType) (v : Value) → HasType t v
      → Admits (of_type may_fault t) v
  pub kept : (t : LogicalType) (r : RangeView) (v : Value) → HasType t v → Admits r v
      → Admits (narrowed t r) v
