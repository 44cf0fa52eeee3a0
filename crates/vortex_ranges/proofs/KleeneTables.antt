-- The ranges of Kleene's tables and of the null tests admit their values.
use Rattle.std.specs.Prelude.{◌≡◌, ◌&&◌, ◌||◌, Bool, true, false, Option, Some, None, refl}
use Rattle.vortex_types.specs.Values.{Value, null, truth, number, text, bytes, list, truth_of}
use Rattle.vortex_types.specs.Values.{truth_or_null}
use Rattle.vortex_operators.specs.declared.operators.Operator.TheVariants.{And, Or}
use Rattle.vortex_operators.specs.Kleene.{kleene_and, kleene_or, kleene_not}
use Rattle.vortex_operators.specs.OperatorValues.{boolean_value, not_value}
use Rattle.vortex_ranges.specs.Ranges.{RangeView, Admits, is_above, is_inside, may_be}
use Rattle.vortex_ranges.specs.Truths.{truths, reach_past_truths, may_be_unknown, may_be_true}
use Rattle.vortex_ranges.specs.Truths.{may_be_false, negation, unknown_of_both, conjunction}
use Rattle.vortex_ranges.specs.Truths.{disjunction, null_test}
use Rattle.vortex_ranges.specs.Sound.{AdmitsOne, AdmitsTwo, null_tested, AdmitTruths}
use Rattle.vortex_ranges.proofs.Tests.{both, on_left, on_right, either_way}
use Rattle.vortex_ranges.proofs.Above.{chained, not_over, has_value, lies_inside}

-- of three tests, the one of that truth value is true
abbrev pub Tells : Option Bool → Bool → Bool → Bool → Type 0
Tells None u n y = u ≡ true
Tells (Some false) u n y = n ≡ true
Tells (Some true) u n y = y ≡ true

pub truths-admit : (u n y : Bool) (o : Option Bool) → Tells o u n y
    → Admits (truths u n y) (truth_or_null o)
truths-admit u n y None e = e
truths-admit u true true (Some false) e = refl
truths-admit u true false (Some false) e = refl
truths-admit u false y (Some false) e = cc
truths-admit u true true (Some true) e = refl
truths-admit u false true (Some true) e = refl
truths-admit u n false (Some true) e = cc

-- ends between which something above true lies reach past the truth values
reaches : (low high : Option Value) (v : Value) → is_above v (truth true) ≡ true
    → is_inside low high v ≡ true → reach_past_truths low high ≡ true
reaches None high v d e = refl
reaches (Some low) None v d e = refl
reaches (Some low) (Some high) v d e =
    on_right (is_above (truth false) low) (is_above high (truth true))
    (either_way (is_above high (truth true)) (λ y. y)
    (λ n.
    let under : is_above v high ≡ false = not_over (Some low) (Some high) v e in
    let never : is_above v (truth true) ≡ false = chained v high (truth true) under n in
    cc))

unknown_value : (r : RangeView) (v : Value) → is_above v (truth true) ≡ true
    → may_be r v ≡ true → may_be_unknown r ≡ true
unknown_value r v d e =
    on_right r.may_be_null (r.may_be_value && reach_past_truths r.low r.high)
    (both r.may_be_value (reach_past_truths r.low r.high) (has_value r v e)
    (reaches r.low r.high v d (lies_inside r v e)))

-- what an admitted value is to Kleene's tables
pub told_by : (r : RangeView) (v : Value) → Admits r v
    → Tells (truth_of v) (may_be_unknown r) (may_be_false r) (may_be_true r)
told_by r null e = on_left r.may_be_null (r.may_be_value && reach_past_truths r.low r.high) e
told_by r (truth true) e = e
told_by r (truth false) e = e
told_by r (number z) e = unknown_value r (number z) refl e
told_by r (text bs) e = unknown_value r (text bs) refl e
told_by r (bytes bs) e = unknown_value r (bytes bs) refl e
told_by r (list vs) e = unknown_value r (list vs) refl e

tells_not : (o : Option Bool) (u n y : Bool) → Tells o u n y → Tells (kleene_not o) u y n
tells_not None u n y e = e
tells_not (Some true) u n y e = e
tells_not (Some false) u n y e = e

module _ (u n y v m z : Bool) where
  -- both unknown, or one unknown and the other neutral
  both_unknown : (a b : Bool) → u ≡ true → v ≡ true → unknown_of_both u a v b ≡ true
  both_unknown a b d e =
      on_left (u && (v || b)) (a && v) (both u (v || b) d (on_left v b e))

  first_unknown : (a b : Bool) → u ≡ true → b ≡ true → unknown_of_both u a v b ≡ true
  first_unknown a b d e =
      on_left (u && (v || b)) (a && v) (both u (v || b) d (on_right v b e))

  second_unknown : (a b : Bool) → a ≡ true → v ≡ true → unknown_of_both u a v b ≡ true
  second_unknown a b d e = on_right (u && (v || b)) (a && v) (both a v d e)

  tells_and : (o p : Option Bool) → Tells o u n y → Tells p v m z
      → Tells (kleene_and o p) (unknown_of_both u y v z) (n || m) (y && z)
  tells_and (Some false) p d e = on_left n m d
  tells_and None (Some false) d e = on_right n m e
  tells_and (Some true) (Some false) d e = on_right n m e
  tells_and None None d e = both_unknown y z d e
  tells_and None (Some true) d e = first_unknown y z d e
  tells_and (Some true) None d e = second_unknown y z d e
  tells_and (Some true) (Some true) d e = both y z d e

  tells_or : (o p : Option Bool) → Tells o u n y → Tells p v m z
      → Tells (kleene_or o p) (unknown_of_both u n v m) (n && m) (y || z)
  tells_or (Some true) p d e = on_left y z d
  tells_or None (Some true) d e = on_right y z e
  tells_or (Some false) (Some true) d e = on_right y z e
  tells_or None None d e = both_unknown n m d e
  tells_or None (Some false) d e = first_unknown n m d e
  tells_or (Some false) None d e = second_unknown n m d e
  tells_or (Some false) (Some false) d e = both n m d e

not-admits : AdmitsOne not_value negation
not-admits r v e =
    truths-admit (may_be_unknown r) (may_be_true r) (may_be_false r) (kleene_not (truth_of v))
    (tells_not (truth_of v) (may_be_unknown r) (may_be_false r) (may_be_true r) (told_by r v e))

pub and-admits : AdmitsTwo (boolean_value And) conjunction
and-admits r s v w d e =
    truths-admit
    (unknown_of_both (may_be_unknown r) (may_be_true r) (may_be_unknown s) (may_be_true s))
    (may_be_false r || may_be_false s) (may_be_true r && may_be_true s)
    (kleene_and (truth_of v) (truth_of w))
    (tells_and (may_be_unknown r) (may_be_false r) (may_be_true r) (may_be_unknown s)
    (may_be_false s) (may_be_true s) (truth_of v) (truth_of w) (told_by r v d) (told_by s w e))

or-admits : AdmitsTwo (boolean_value Or) disjunction
or-admits r s v w d e =
    truths-admit
    (unknown_of_both (may_be_unknown r) (may_be_false r) (may_be_unknown s) (may_be_false s))
    (may_be_false r && may_be_false s) (may_be_true r || may_be_true s)
    (kleene_or (truth_of v) (truth_of w))
    (tells_or (may_be_unknown r) (may_be_false r) (may_be_true r) (may_be_unknown s)
    (may_be_false s) (may_be_true s) (truth_of v) (truth_of w) (told_by r v d) (told_by s w e))

null-admits : (negated : Bool) → AdmitsOne (null_tested negated) (null_test negated)
null-admits false r null e = truths-admit false r.may_be_value r.may_be_null (Some true) e
null-admits true r null e = truths-admit false r.may_be_null r.may_be_value (Some false) e
null-admits false r v e =
    truths-admit false r.may_be_value r.may_be_null (Some false) (has_value r v e)
null-admits true r v e =
    truths-admit false r.may_be_null r.may_be_value (Some true) (has_value r v e)

pub truths_admitted : AdmitTruths
truths_admitted = record {
  not_range = not-admits;
  and_range = and-admits;
  or_range = or-admits;
  null_range = null-admits;
}
