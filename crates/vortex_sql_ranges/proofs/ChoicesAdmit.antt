-- The ranges of `coalesce` and of widening casts admit their values.
use Rattle.std.specs.Prelude.{◌≡◌, List, [], ◌∷◌, Bool, true, false, refl}
use Rattle.std.proofs.Common.{cond, subst, sym}
use Rattle.vortex_types.specs.declared.dtype.PType.{PType}
use Rattle.vortex_types.specs.LogicalTypes.{LogicalType, integer_type}
use Rattle.vortex_types.specs.Values.{Value, null, number, is_null}
use Rattle.vortex_sql_choices.specs.Coalesce.{coalesced, coalesce_row}
use Rattle.vortex_sql_numbers.specs.Casts.{widen_row}
use Rattle.vortex_sql_rows.specs.declared.types.Kind.TheVariants.{Within}
use Rattle.vortex_sql_rows.specs.declared.types.Takes.TheVariants.{Alike}
use Rattle.vortex_sql_rows.specs.Types.{is_kind, main_type}
use Rattle.vortex_sql_rows.specs.Laws.{accepted, given_values}
use Rattle.vortex_sql_rows.specs.Row.{row_type, row_means, AreGiven, IsOf}
use Rattle.vortex_ranges.specs.Ranges.{RangeView, Admits, may_be}
use Rattle.vortex_ranges.specs.Ranges.{is_inside}
use Rattle.vortex_ranges.specs.Calls.{AllAdmit, AdmitsCalls, AdmitsOutcome}
use Rattle.vortex_ranges.specs.ShippedCalls.{cast_range}
use Rattle.vortex_ranges.proofs.Tests.{on_left, on_right}
use Rattle.vortex_ranges.proofs.Above.{not_under, not_over, inside, has_value, lies_inside}
use Rattle.vortex_ranges.proofs.Anything.{anything-admits}
use Rattle.vortex_sql_ranges.specs.Choices.{lower, higher, either_value, with_null, either_of}
use Rattle.vortex_sql_ranges.specs.Choices.{without_null, nothing, coalesced_from}
use Rattle.vortex_sql_ranges.specs.Choices.{coalesce_range}
use Rattle.vortex_sql_ranges.proofs.EitherEnds.{under_left, under_right, over_left, over_right}

module _ (r s : RangeView) where
  abbrev chosen : Bool → Bool → RangeView
  chosen b c = cond b (cond c (either_value r s) (with_null r s)) (with_null s r)

  null_of_one : (b c : Bool) → r.may_be_null ≡ true → Admits (chosen b c) null
  null_of_one true true e = on_left r.may_be_null s.may_be_null e
  null_of_one true false e = on_left r.may_be_null s.may_be_null e
  null_of_one false c e = on_right s.may_be_null r.may_be_null e

  null_of_other : (b c : Bool) → s.may_be_null ≡ true → Admits (chosen b c) null
  null_of_other true true e = on_right r.may_be_null s.may_be_null e
  null_of_other true false e = on_right r.may_be_null s.may_be_null e
  null_of_other false c e = on_left s.may_be_null r.may_be_null e

  inside_left : (v : Value) → is_inside r.low r.high v ≡ true
      → is_inside (lower r.low s.low) (higher r.high s.high) v ≡ true
  inside_left v e =
      inside (lower r.low s.low) (higher r.high s.high) v
      (under_left r.low s.low v (not_under r.low r.high v e))
      (over_left r.high s.high v (not_over r.low r.high v e))

  inside_right : (v : Value) → is_inside s.low s.high v ≡ true
      → is_inside (lower r.low s.low) (higher r.high s.high) v ≡ true
  inside_right v e =
      inside (lower r.low s.low) (higher r.high s.high) v
      (under_right r.low s.low v (not_under s.low s.high v e))
      (over_right r.high s.high v (not_over s.low s.high v e))

  value_of_one : (v : Value) → may_be r v ≡ true → (b c : Bool) → r.may_be_value ≡ b
      → may_be (chosen b c) v ≡ true
  value_of_one v e true true h = inside_left v (lies_inside r v e)
  value_of_one v e true false h = e
  value_of_one v e false c h =
      let never : r.may_be_value ≡ true = has_value r v e in
      cc

  value_of_other : (v : Value) → may_be s v ≡ true → (b c : Bool) → s.may_be_value ≡ c
      → may_be (chosen b c) v ≡ true
  value_of_other v e true true h = inside_right v (lies_inside s v e)
  value_of_other v e true false h =
      let never : s.may_be_value ≡ true = has_value s v e in
      cc
  value_of_other v e false c h = e

  admits-one : (v : Value) → Admits r v → Admits (either_of r s) v
  admits-one null e = null_of_one r.may_be_value s.may_be_value e
  admits-one v e = value_of_one v e r.may_be_value s.may_be_value refl

  admits-other : (v : Value) → Admits s v → Admits (either_of r s) v
  admits-other null e = null_of_other r.may_be_value s.may_be_value e
  admits-other v e = value_of_other v e r.may_be_value s.may_be_value refl

-- of a range that may be null, and of one that is not
abbrev coalesced_by : Bool → RangeView → RangeView → List RangeView → RangeView
coalesced_by b found r rs =
    cond b (coalesced_from (either_of found (without_null r)) rs) (either_of found r)

-- what was admitted so far still is
kept : (found : RangeView) (rs : List RangeView) (v : Value) → Admits found v
    → Admits (coalesced_from found rs) v
kept found [] null e = refl
kept found [] v e = e
kept found (r ∷ rs) v e =
    by r.may_be_null
    (kept (either_of found (without_null r)) rs v (admits-one found (without_null r) v e))
  where
    by : (b : Bool) → Admits (coalesced_from (either_of found (without_null r)) rs) v
        → Admits (coalesced_by b found r rs) v
    by true later = later
    by false later = admits-one found r v e

found_here : (found r : RangeView) (rs : List RangeView) (v : Value) → may_be r v ≡ true
    → is_null v ≡ false → Admits (coalesced_from found (r ∷ rs)) v
found_here found r rs null e n = cc
found_here found r rs v e n = by r.may_be_null
  where
    by : (b : Bool) → Admits (coalesced_by b found r rs) v
    by true =
        kept (either_of found (without_null r)) rs v (admits-other found (without_null r) v e)
    by false = admits-other found r v e

coalesced-admits : (found : RangeView) (rs : List RangeView) (vs : List Value) → AllAdmit rs vs
    → Admits (coalesced_from found rs) (coalesced vs)
coalesced-admits found [] [] h = refl
coalesced-admits found [] (v ∷ vs) h = absurd h
coalesced-admits found (r ∷ rs) [] h = absurd h
coalesced-admits found (r ∷ rs) (null ∷ vs) h =
    subst (λ b. Admits (coalesced_by b found r rs) (coalesced vs)) (sym h.0)
    (coalesced-admits (either_of found (without_null r)) rs vs h.1)
coalesced-admits found (r ∷ rs) (v ∷ vs) h = found_here found r rs v h.0 refl

pub coalesce-calls : (t : LogicalType) (rs : List RangeView)
    → AdmitsCalls (row_type coalesce_row) (row_means coalesce_row) t rs (coalesce_range rs)
coalesce-calls t rs ts vs e h a = coalesced-admits nothing rs vs a

-- a number is the same number, and null is null
module _ (p : PType) (ts : List LogicalType) where
  same : (r : RangeView) (t : LogicalType) (v : Value) → is_kind (Within p) t ≡ true → IsOf t v
      → Admits r v → AdmitsOutcome r (row_means (widen_row p) ts (v ∷ []))
  same r t null k h e = e
  same r t (number z) k h e = e
  same r (integer_type q n) v k h e = absurd h
  same r t v k h e = cc

  widened : (t : LogicalType) (rs : List RangeView) (vs : List Value)
      → AreGiven (Alike (Within p)) t vs → AllAdmit rs vs
      → AdmitsOutcome (cast_range rs) (row_means (widen_row p) ts vs)
  widened t (r ∷ []) (v ∷ []) g h = same r t v g.0 g.1.0 h.0
  widened t (r ∷ []) [] g h = absurd h
  widened t (r ∷ []) (v ∷ w ∷ vs) g h = absurd h.1
  widened t rs vs g h = anything-admits (row_means (widen_row p) ts vs)

pub widen-calls : (p : PType) (t : LogicalType) (rs : List RangeView)
    → AdmitsCalls (row_type (widen_row p)) (row_means (widen_row p)) t rs (cast_range rs)
widen-calls p t rs ts vs e h a =
    widened p ts (main_type (Alike (Within p)) ts) rs vs
    (given_values (Alike (Within p)) ts vs (accepted (widen_row p) ts t e).taken h) a
