-- The range of IS DISTINCT FROM admits its values.
use Rattle.std.specs.Prelude.{◌≡◌, ◌&&◌, ◌||◌, List, [], ◌∷◌, Bool, true, false, not, Some}
use Rattle.vortex_types.specs.LogicalTypes.{LogicalType}
use Rattle.vortex_types.specs.Values.{Value, null, truth}
use Rattle.vortex_operators.specs.declared.operators.CompareOperator.TheVariants.{Eq}
use Rattle.vortex_sql_choices.specs.InList.{is_same}
use Rattle.vortex_sql_choices.specs.Distinct.{distinct, distinct_row}
use Rattle.vortex_sql_rows.specs.Row.{row_type, row_means}
use Rattle.vortex_ranges.specs.Ranges.{RangeView, Admits, may_be}
use Rattle.vortex_ranges.specs.Truths.{may_be_true, may_be_false}
use Rattle.vortex_ranges.specs.Comparing.{comparison}
use Rattle.vortex_ranges.specs.Calls.{AllAdmit, AdmitsCalls}
use Rattle.vortex_ranges.proofs.Tests.{both, on_left, on_right}
use Rattle.vortex_ranges.proofs.Above.{has_value}
use Rattle.vortex_ranges.proofs.Anything.{anything-value}
use Rattle.vortex_ranges.proofs.KleeneTables.{truths-admit}
use Rattle.vortex_ranges.proofs.Compared.{comparisons_admitted}
use Rattle.vortex_sql_ranges.specs.Distinct.{may_be_same, may_differ, distinctness, distinct_range}

module _ (r s : RangeView) where
  same-admits : may_be_same r s ≡ true → Admits (distinctness r s) (truth false)
  same-admits e = truths-admit false (may_be_same r s) (may_differ r s) (Some false) e

  other-admits : may_differ r s ≡ true → Admits (distinctness r s) (truth true)
  other-admits e = truths-admit false (may_be_same r s) (may_differ r s) (Some true) e

  by_values : (b : Bool) → Admits (comparison Eq r s) (truth b)
      → Admits (distinctness r s) (truth (not b))
  by_values true e =
      same-admits (on_right (r.may_be_null && s.may_be_null) (may_be_true (comparison Eq r s)) e)
  by_values false e =
      other-admits (on_right (r.may_be_null && s.may_be_value)
      ((r.may_be_value && s.may_be_null) || may_be_false (comparison Eq r s))
      (on_right (r.may_be_value && s.may_be_null) (may_be_false (comparison Eq r s)) e))

  left_null : r.may_be_null ≡ true → (w : Value) → may_be s w ≡ true
      → Admits (distinctness r s) (truth true)
  left_null d w e =
      other-admits (on_left (r.may_be_null && s.may_be_value)
      ((r.may_be_value && s.may_be_null) || may_be_false (comparison Eq r s))
      (both r.may_be_null s.may_be_value d (has_value s w e)))

  right_null : (v : Value) → may_be r v ≡ true → s.may_be_null ≡ true
      → Admits (distinctness r s) (truth true)
  right_null v d e =
      other-admits (on_right (r.may_be_null && s.may_be_value)
      ((r.may_be_value && s.may_be_null) || may_be_false (comparison Eq r s))
      (on_left (r.may_be_value && s.may_be_null) (may_be_false (comparison Eq r s))
      (both r.may_be_value s.may_be_null (has_value r v d) e)))

  distinctness-admits : (v w : Value) → Admits r v → Admits s w
      → Admits (distinctness r s) (truth (not (is_same v w)))
  distinctness-admits null null d e =
      same-admits (on_left (r.may_be_null && s.may_be_null) (may_be_true (comparison Eq r s))
      (both r.may_be_null s.may_be_null d e))
  distinctness-admits null w d e = left_null d w e
  distinctness-admits v null d e = right_null v d e
  distinctness-admits v w d e =
      by_values (is_same v w) (comparisons_admitted.compared Eq r s v w d e)

distinct-admits : (rs : List RangeView) (vs : List Value) → AllAdmit rs vs
    → Admits (distinct_range rs) (distinct vs)
distinct-admits (r ∷ s ∷ []) (v ∷ w ∷ []) h = distinctness-admits r s v w h.0 h.1.0
distinct-admits (r ∷ s ∷ []) [] h = absurd h
distinct-admits (r ∷ s ∷ []) (v ∷ []) h = absurd h.1
distinct-admits (r ∷ s ∷ []) (v ∷ w ∷ x ∷ vs) h = absurd h.1.1
distinct-admits rs vs h = anything-value (distinct vs)

pub distinct-calls : (t : LogicalType) (rs : List RangeView)
    → AdmitsCalls (row_type distinct_row) (row_means distinct_row) t rs (distinct_range rs)
distinct-calls t rs ts vs e h a = distinct-admits rs vs a
