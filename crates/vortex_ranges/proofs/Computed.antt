-- The ranges of arithmetic admit its results.
use Rattle.std.specs.Prelude.{◌≡◌, ◌&&◌, ◌||◌, ◌<ℤ◌, ◌≤ℤ◌, ℤ, pos, negsuc, int_lt, List, [], ◌∷◌}
use Rattle.std.specs.Prelude.{Bool, true, false, Option, Some, None, refl}
use Rattle.std.specs.Int.{int_min, int_max}
use Rattle.std.specs.Option.{option_map}
use Rattle.std.proofs.Common.{arith, sym, subst, cond}
use Rattle.std.proofs.lemmas.Int.{ints, clamps}
use Rattle.std.proofs.lemmas.Cmp.{int_ranked}
use Rattle.std.specs.declared.cmp.Ordering.{Ordering}
use Rattle.std.specs.declared.cmp.Ordering.TheVariants.{Less, Equal, Greater}
use Rattle.std.specs.Ordering.{is_gt, int_cmp}
use Rattle.vortex_checked.specs.Exact.{is_outside}
use Rattle.vortex_errors.specs.declared.error.NumericOperator.{NumericOperator}
use Rattle.vortex_types.specs.declared.dtype.PType.{PType}
use Rattle.vortex_types.specs.LogicalTypes.{LogicalType, integer_type}
use Rattle.vortex_types.specs.TypeEquality.{ptype_eq, ptype_yes}
use Rattle.vortex_types.specs.Typing.{HasType, least_of, greatest_of}
use Rattle.vortex_types.specs.Values.{Value, null, number}
use Rattle.vortex_operators.specs.Arithmetic.{exact_result, held, arithmetic_value}
use Rattle.vortex_interface.specs.Arithmetic.{arithmetic_type, value_or_fault, arithmetic_of}
use Rattle.vortex_interface.specs.Arithmetic.{arithmetic_means}
use Rattle.vortex_ranges.specs.Ranges.{RangeView, Admits, AdmitsResult, is_above, is_inside, may_be}
use Rattle.vortex_ranges.specs.Calls.{AdmitsOutcome, AdmitsCalls}
use Rattle.vortex_ranges.specs.Arithmetic.{narrow, both_of, number_ends, has_results, low_result}
use Rattle.vortex_ranges.specs.Arithmetic.{high_result, numbers, any_number, results, integer_range}
use Rattle.vortex_ranges.specs.Arithmetic.{arithmetic_range}
use Rattle.vortex_ranges.specs.ShippedCalls.{of_two}
use Rattle.vortex_ranges.proofs.Tests.{both, on_left, on_right}
use Rattle.vortex_ranges.proofs.Above.{inside, not_under, not_over, has_value, lies_inside}
use Rattle.vortex_ranges.proofs.OfType.{not_below}
use Rattle.vortex_ranges.proofs.Products.{Lies, has_result}
use Rattle.vortex_ranges.proofs.Anything.{anything-admits}

no_higher : (x a : ℤ) → is_above (number x) (number a) ≡ false → x ≤ℤ a
no_higher x a h = by (int_cmp x a) refl h
  where
    by : (o : Ordering) → int_cmp x a ≡ o → is_gt o ≡ false → x ≤ℤ a
    by Less e f = let is : x <ℤ a = int_ranked x a Less (sym e) in omega (arith, ints, is)
    by Equal e f = let is : x ≡ a = int_ranked x a Equal (sym e) in omega (arith, ints, is)
    by Greater e f = cc

narrow_same : (x y : ℤ) → narrow x ≡ Some y → y ≡ x
narrow_same x y e = by (is_outside (negsuc 9223372036854775807) (pos 9223372036854775807) x) e
  where
    by : (b : Bool) → cond b None (Some x) ≡ Some y → y ≡ x
    by true f = cc
    by false f = cc

-- a number between two ends lies between these, where they are known
ends_hold : (low high : Option Value) (a : ℤ) (p : ℤ × ℤ) → number_ends low high ≡ Some p
    → is_inside low high (number a) ≡ true → Lies p a
ends_hold (Some (number x)) (Some (number y)) a p e d = by (narrow x) (narrow y) refl refl e
  where
    above : x ≤ℤ a
    above = no_higher x a (not_under (Some (number x)) (Some (number y)) (number a) d)

    below : a ≤ℤ y
    below = no_higher a y (not_over (Some (number x)) (Some (number y)) (number a) d)

    by : (l h : Option ℤ) → narrow x ≡ l → narrow y ≡ h → both_of l h ≡ Some p → Lies p a
    by (Some l) (Some h) f g q =
        let is : (l, h) ≡ p = cc in
        let low : l ≤ℤ a = subst (λ (z : ℤ). z ≤ℤ a) (sym (narrow_same x l f)) above in
        let high : a ≤ℤ h = subst (λ (z : ℤ). a ≤ℤ z) (sym (narrow_same y h g)) below in
        subst (λ (q : ℤ × ℤ). Lies q a) is (low, high)
    by l h f g q = cc
ends_hold low high a p e d = cc

lower : (x y z : ℤ) → x ≤ℤ z → int_lt z y ≡ true → int_lt x y ≡ true
lower x y z h e = grind (arith, ints, h, e)

higher : (x y z : ℤ) → z ≤ℤ x → int_lt y z ≡ true → int_lt y x ≡ true
higher x y z h e = grind (arith, ints, h, e)

module _ (p : PType) (n value : Bool) (some : value ≡ true) where
  within : (z : ℤ) → is_outside (least_of p) (greatest_of p) z ≡ false
      → (least_of p ≤ℤ z) × (z ≤ℤ greatest_of p)
  within z e = by (int_lt z (least_of p)) (int_lt (greatest_of p) z) refl refl e
    where
      by : (a b : Bool) → int_lt z (least_of p) ≡ a → int_lt (greatest_of p) z ≡ b
          → (a || b) ≡ false → (least_of p ≤ℤ z) × (z ≤ℤ greatest_of p)
      by true b f g h = cc
      by false true f g h = cc
      by false false f g h = (omega (arith, ints, f), omega (arith, ints, g))

  any_held : (o : Option ℤ) → AdmitsResult (any_number p n value) (held p o)
  any_held None = some
  any_held (Some z) = by (is_outside (least_of p) (greatest_of p) z) refl
    where
      by : (b : Bool) → is_outside (least_of p) (greatest_of p) z ≡ b
          → AdmitsResult (any_number p n value) (cond b None (Some (number z)))
      by true e = some
      by false e =
          let ends = within z e in
          both value
          (is_inside (Some (number (least_of p))) (Some (number (greatest_of p))) (number z)) some
          (inside (Some (number (least_of p))) (Some (number (greatest_of p))) (number z)
          (not_below (least_of p) z ends.0) (not_below z (greatest_of p) ends.1))

  module _ (low high z : ℤ) (d : low ≤ℤ z) (e : z ≤ℤ high) where
    past : is_outside (least_of p) (greatest_of p) z ≡ true
        → (int_lt low (least_of p) || int_lt (greatest_of p) high) ≡ true
    past f = by (int_lt z (least_of p)) (int_lt (greatest_of p) z) refl refl f
      where
        by : (a b : Bool) → int_lt z (least_of p) ≡ a → int_lt (greatest_of p) z ≡ b
            → (a || b) ≡ true → (int_lt low (least_of p) || int_lt (greatest_of p) high) ≡ true
        by true b f g h =
            on_left (int_lt low (least_of p)) (int_lt (greatest_of p) high)
            (lower low (least_of p) z d f)
        by false true f g h =
            on_right (int_lt low (least_of p)) (int_lt (greatest_of p) high)
            (higher high (greatest_of p) z e g)
        by false false f g h = cc

    number_held : AdmitsResult (numbers p n value low high) (held p (Some z))
    number_held = by (is_outside (least_of p) (greatest_of p) z) refl
      where
        by : (b : Bool) → is_outside (least_of p) (greatest_of p) z ≡ b
            → AdmitsResult (numbers p n value low high) (cond b None (Some (number z)))
        by true f =
            both value (int_lt low (least_of p) || int_lt (greatest_of p) high) some (past f)
        by false f =
            let ends = within z f in
            let l = int_max (least_of p) low in
            let h = int_min (greatest_of p) high in
            both value (is_inside (Some (number l)) (Some (number h)) (number z)) some
            (inside (Some (number l)) (Some (number h)) (number z)
            (not_below l z (omega (arith, ints, clamps, d, ends.0)))
            (not_below z h (omega (arith, ints, clamps, e, ends.1))))

module _ (o : NumericOperator) (p : PType) (n value : Bool) where
  null_by : (l r : Option (ℤ × ℤ)) → n ≡ true → (results o p n value l r).may_be_null ≡ true
  null_by (Some a) (Some b) e = by (has_results o b)
    where
      by : (c : Bool)
          → (cond c (numbers p n value (low_result o a b) (high_result o a b))
          (any_number p n value)).may_be_null ≡ true
      by true = e
      by false = e
  null_by l r e = e

  held_by : (l r : Option (ℤ × ℤ)) (a b : ℤ) → value ≡ true → ((x : ℤ × ℤ) → l ≡ Some x → Lies x a)
      → ((x : ℤ × ℤ) → r ≡ Some x → Lies x b)
      → AdmitsResult (results o p n value l r) (held p (exact_result o a b))
  held_by (Some x) (Some y) a b v d e = by (has_results o y) refl
    where
      by : (c : Bool) → has_results o y ≡ c
          → AdmitsResult
          (cond c (numbers p n value (low_result o x y) (high_result o x y)) (any_number p n value))
          (held p (exact_result o a b))
      by true h =
          let result = has_result o x y a b (d x refl) (e y refl) h in
          subst (λ (z : Option ℤ). AdmitsResult
          (numbers p n value (low_result o x y) (high_result o x y)) (held p z)) (sym result.exact)
          (number_held p n value v (low_result o x y) (high_result o x y) result.result
          result.lies.0 result.lies.1)
      by false h = any_held p n value v (exact_result o a b)
  held_by l r a b v d e = any_held p n value v (exact_result o a b)

module _ (o : NumericOperator) (p : PType) (r s : RangeView) where
  abbrev some_null : Bool
  some_null = r.may_be_null || s.may_be_null

  abbrev some_value : Bool
  some_value = r.may_be_value && s.may_be_value

  of_numbers : (a b : ℤ) → may_be r (number a) ≡ true → may_be s (number b) ≡ true
      → AdmitsResult (integer_range o p r s) (held p (exact_result o a b))
  of_numbers a b d e =
      held_by o p some_null some_value (number_ends r.low r.high) (number_ends s.low s.high) a b
      (both r.may_be_value s.may_be_value (has_value r (number a) d) (has_value s (number b) e))
      (λ x f. ends_hold r.low r.high a x f (lies_inside r (number a) d))
      (λ x f. ends_hold s.low s.high b x f (lies_inside s (number b) e))

  integer-admits : (n m : Bool) (v w : Value) → HasType (integer_type p n) v
      → HasType (integer_type p m) w → Admits r v → Admits s w
      → AdmitsResult (integer_range o p r s) (arithmetic_value o p v w)
  integer-admits n m (number a) (number b) h k d e = of_numbers a b d e
  integer-admits n m (number a) null h k d e =
      null_by o p some_null some_value (number_ends r.low r.high) (number_ends s.low s.high)
      (on_right r.may_be_null s.may_be_null e)
  integer-admits n m (number a) w h k d e = absurd k
  integer-admits n m null w h k d e =
      null_by o p some_null some_value (number_ends r.low r.high) (number_ends s.low s.high)
      (on_left r.may_be_null s.may_be_null d)
  integer-admits n m v w h k d e = absurd h

as_outcome : (o : NumericOperator) (r : RangeView) (x : Option Value) → AdmitsResult r x
    → AdmitsOutcome r (value_or_fault o x)
as_outcome o r None h = h
as_outcome o r (Some v) h = h

-- so of a call whose type is an integer type
module _ (o : NumericOperator) (r s : RangeView) (v w : Value) (d : Admits r v) (e : Admits s w) where
  of_integers : (p q : PType) (n m k b : Bool) (t : LogicalType) → ptype_eq p q ≡ b
      → option_map (λ x. integer_type x k) (cond b (Some p) None) ≡ Some t
      → HasType (integer_type p n) v → HasType (integer_type q m) w
      → AdmitsOutcome (arithmetic_range o t r s) (arithmetic_of o (cond b (Some p) None) v w)
  of_integers p q n m k false t same is h g = cc
  of_integers p q n m k true t same is h g =
      let equal : integer_type p k ≡ t = cc in
      let kept = subst (λ (x : PType). HasType (integer_type x m) w) (sym (ptype_yes p q same)) g in
      subst (λ (u : LogicalType).
      AdmitsOutcome (arithmetic_range o u r s) (value_or_fault o (arithmetic_value o p v w))) equal
      (as_outcome o (integer_range o p r s) (arithmetic_value o p v w)
      (integer-admits o p r s n m v w h kept d e))

  of_pair : (a b t : LogicalType) → arithmetic_type (a ∷ b ∷ []) ≡ Some t → HasType a v → HasType b w
      → AdmitsOutcome (arithmetic_range o t r s) (arithmetic_means o (a ∷ b ∷ []) (v ∷ w ∷ []))
  of_pair (integer_type p n) (integer_type q m) t is h g =
      of_integers p q n m _ (ptype_eq p q) t refl is h g
  of_pair a b t is h g = cc

pub arithmetic-admits : (o : NumericOperator) (t : LogicalType) (rs : List RangeView)
    → AdmitsCalls arithmetic_type (arithmetic_means o) t rs (of_two (arithmetic_range o t) rs)
arithmetic-admits o t (r ∷ s ∷ []) (a ∷ b ∷ []) (v ∷ w ∷ []) e h d =
    of_pair o r s v w d.0 d.1.0 a b t e h.0 h.1.0
arithmetic-admits o t (r ∷ s ∷ []) (a ∷ b ∷ []) [] e h d = absurd h
arithmetic-admits o t (r ∷ s ∷ []) (a ∷ b ∷ []) (v ∷ []) e h d = absurd h.1
arithmetic-admits o t (r ∷ s ∷ []) (a ∷ b ∷ []) (v ∷ w ∷ x ∷ vs) e h d = absurd h.1.1
arithmetic-admits o t (r ∷ s ∷ []) ts vs e h d = cc
arithmetic-admits o t rs ts vs e h d = anything-admits (arithmetic_means o ts vs)
