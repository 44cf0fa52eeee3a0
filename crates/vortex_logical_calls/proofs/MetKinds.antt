-- Kinds in which several meet from left to right.
use Rattle.std.proofs.Common.{◌≡◌, ◌+◌, ◌-◌, ℕ, Bool, true, false, refl, ap, sym, subst, arith}
use Rattle.std.specs.Prelude.{max, min, Option, Some, None, if◌then◌else◌}
use Rattle.vortex_types.specs.declared.dtype.PType.{PType}
use Rattle.vortex_types.specs.TypeEquality.{ptype_eq, ptype_yes, ptype_refl}
use Rattle.vortex_logical.specs.declared.kind.Kind.TheVariants.{Plain, Date, Timestamp, Decimal}
use Rattle.vortex_logical.specs.declared.kind.Kind.TheVariants.{F64, F32}
use Rattle.vortex_logical.specs.declared.operand.Operand.{Operand}
use Rattle.vortex_logical.specs.declared.operand.Operand.TheVariants.{Whole, Of}
use Rattle.vortex_logical.specs.Digits.{Digits, digits_of}
use Rattle.vortex_logical.specs.CommonKinds.{common_operand, common_digits, whole_digits}
use Rattle.vortex_logical_calls.specs.RowLaws.{KindsMeet}

operand_is : (a b : Operand) → Some a ≡ Some b → a ≡ b
operand_is a b e = cc

digits_are : (d e : Digits) → Some (Of (Decimal d)) ≡ Some (Of (Decimal e)) → d ≡ e
digits_are d e h = cc

left_scale : (m n : ℕ) → max m (max m n) ≡ max m n
left_scale m n = omega arith

right_scale : (m n : ℕ) → max n (max m n) ≡ max m n
right_scale m n = omega arith

left_precision : (x y s t : ℕ)
    → min 18 (max x (min 18 (max x y + max s t) - max s t) + max s (max s t))
    ≡ min 18 (max x y + max s t)
left_precision x y s t = omega arith

right_precision : (x y s t : ℕ)
    → min 18 (max y (min 18 (max x y + max s t) - max s t) + max t (max s t))
    ≡ min 18 (max x y + max s t)
right_precision x y s t = omega arith

further_scale : (s t u : ℕ) → max s t ≡ t → max t u ≡ u → max s u ≡ u
further_scale s t u e f = omega (arith, e, f)

further_precision : (x p q s t u : ℕ) → max s t ≡ t → min 18 (max x (p - t) + max s t) ≡ p
    → max t u ≡ u → min 18 (max (p - t) (q - u) + max t u) ≡ q
    → min 18 (max x (q - u) + max s u) ≡ q
further_precision x p q s t u e f g h = omega (arith, e, f, g, h)

meet_left : (d e : Digits) → common_digits d (common_digits d e) ≡ common_digits d e
meet_left d e =
    let p = left_precision (d.precision - d.scale) (e.precision - e.scale) d.scale e.scale in
    let s = left_scale d.scale e.scale in
    λ i. digits_of (p i) (s i)

meet_right : (d e : Digits) → common_digits e (common_digits d e) ≡ common_digits d e
meet_right d e =
    let p = right_precision (d.precision - d.scale) (e.precision - e.scale) d.scale e.scale in
    let s = right_scale d.scale e.scale in
    λ i. digits_of (p i) (s i)

meet_on : (d e f : Digits) → common_digits d e ≡ e → common_digits e f ≡ f → common_digits d f ≡ f
meet_on d e f h k =
    let s = further_scale d.scale e.scale f.scale (ap (λ x. x.scale) h) (ap (λ x. x.scale) k) in
    let p = further_precision (d.precision - d.scale) e.precision f.precision d.scale e.scale f.scale
    (ap (λ x. x.scale) h) (ap (λ x. x.precision) h) (ap (λ x. x.scale) k) (ap (λ x. x.precision) k) in
    λ i. digits_of (p i) (s i)

-- a whole number is a decimal without a point
abbrev whole : PType → Digits
whole p = digits_of (whole_digits p) 0

as_decimal : (d e : Digits) → d ≡ e → Some (Of (Decimal d)) ≡ Some (Of (Decimal e))
as_decimal d e h = ap (λ x. Some (Of (Decimal x))) h

same_whole : (p : PType) → common_operand (Whole p) (Whole p) ≡ Some (Whole p)
same_whole p = ap (λ b. if b then Some (Whole p) else None) (ptype_refl p)

-- where a meets d in d, and c is d
meets_as : (a d c : Operand) → common_operand a d ≡ Some d → Some d ≡ Some c
    → common_operand a c ≡ Some c
meets_as a d c g e = subst (λ z. common_operand a z ≡ Some z) (operand_is d c e) g

left_whole : (p q : PType) (c : Operand) → common_operand (Whole p) (Whole q) ≡ Some c
    → common_operand (Whole p) c ≡ Some c
left_whole p q c e = by (ptype_eq p q) e
  where
    by : (b : Bool) → (if b then Some (Whole p) else None) ≡ Some c
        → common_operand (Whole p) c ≡ Some c
    by true h = meets_as (Whole p) (Whole p) c (same_whole p) h
    by false h = cc

right_whole : (p q : PType) (c : Operand) → common_operand (Whole p) (Whole q) ≡ Some c
    → common_operand (Whole q) c ≡ Some c
right_whole p q c e = by (ptype_eq p q) refl e
  where
    by : (b : Bool) → ptype_eq p q ≡ b → (if b then Some (Whole p) else None) ≡ Some c
        → common_operand (Whole q) c ≡ Some c
    by true k h =
        let same = subst (λ r. common_operand (Whole r) (Whole p) ≡ Some (Whole p))
        (ptype_yes p q k) (same_whole p) in
        meets_as (Whole q) (Whole p) c same h
    by false k h = cc

left : (a b c : Operand) → common_operand a b ≡ Some c → common_operand a c ≡ Some c
left (Whole p) (Whole q) c e = left_whole p q c e
left (Whole p) (Of (Decimal d)) c e =
    meets_as (Whole p) (Of (Decimal (common_digits (whole p) d))) c
    (as_decimal _ _ (meet_left (whole p) d)) e
left (Of (Decimal d)) (Whole p) c e =
    meets_as (Of (Decimal d)) (Of (Decimal (common_digits d (whole p)))) c
    (as_decimal _ _ (meet_left d (whole p))) e
left (Of (Decimal d)) (Of (Decimal f)) c e =
    meets_as (Of (Decimal d)) (Of (Decimal (common_digits d f))) c
    (as_decimal _ _ (meet_left d f)) e
left (Of Plain) (Of Plain) c e = meets_as (Of Plain) (Of Plain) c refl e
left (Of Date) (Of Date) c e = meets_as (Of Date) (Of Date) c refl e
left (Of Timestamp) (Of Timestamp) c e = meets_as (Of Timestamp) (Of Timestamp) c refl e
left (Of F32) (Of F32) c e = meets_as (Of F32) (Of F32) c refl e
left (Whole p) (Of F64) c e = meets_as (Whole p) (Of F64) c refl e
left (Whole p) (Of F32) c e = meets_as (Whole p) (Of F64) c refl e
left (Of (Decimal d)) (Of F64) c e = meets_as (Of (Decimal d)) (Of F64) c refl e
left (Of (Decimal d)) (Of F32) c e = meets_as (Of (Decimal d)) (Of F64) c refl e
left (Of F64) (Whole p) c e = meets_as (Of F64) (Of F64) c refl e
left (Of F64) (Of (Decimal d)) c e = meets_as (Of F64) (Of F64) c refl e
left (Of F64) (Of F64) c e = meets_as (Of F64) (Of F64) c refl e
left (Of F64) (Of F32) c e = meets_as (Of F64) (Of F64) c refl e
left (Of F32) (Whole p) c e = meets_as (Of F32) (Of F64) c refl e
left (Of F32) (Of (Decimal d)) c e = meets_as (Of F32) (Of F64) c refl e
left (Of F32) (Of F64) c e = meets_as (Of F32) (Of F64) c refl e
left a b c e = cc

right : (a b c : Operand) → common_operand a b ≡ Some c → common_operand b c ≡ Some c
right (Whole p) (Whole q) c e = right_whole p q c e
right (Whole p) (Of (Decimal d)) c e =
    meets_as (Of (Decimal d)) (Of (Decimal (common_digits (whole p) d))) c
    (as_decimal _ _ (meet_right (whole p) d)) e
right (Of (Decimal d)) (Whole p) c e =
    meets_as (Whole p) (Of (Decimal (common_digits d (whole p)))) c
    (as_decimal _ _ (meet_right d (whole p))) e
right (Of (Decimal d)) (Of (Decimal f)) c e =
    meets_as (Of (Decimal f)) (Of (Decimal (common_digits d f))) c
    (as_decimal _ _ (meet_right d f)) e
right (Of Plain) (Of Plain) c e = meets_as (Of Plain) (Of Plain) c refl e
right (Of Date) (Of Date) c e = meets_as (Of Date) (Of Date) c refl e
right (Of Timestamp) (Of Timestamp) c e = meets_as (Of Timestamp) (Of Timestamp) c refl e
right (Of F32) (Of F32) c e = meets_as (Of F32) (Of F32) c refl e
right (Whole p) (Of F64) c e = meets_as (Of F64) (Of F64) c refl e
right (Whole p) (Of F32) c e = meets_as (Of F32) (Of F64) c refl e
right (Of (Decimal d)) (Of F64) c e = meets_as (Of F64) (Of F64) c refl e
right (Of (Decimal d)) (Of F32) c e = meets_as (Of F32) (Of F64) c refl e
right (Of F64) (Whole p) c e = meets_as (Whole p) (Of F64) c refl e
right (Of F64) (Of (Decimal d)) c e = meets_as (Of (Decimal d)) (Of F64) c refl e
right (Of F64) (Of F64) c e = meets_as (Of F64) (Of F64) c refl e
right (Of F64) (Of F32) c e = meets_as (Of F32) (Of F64) c refl e
right (Of F32) (Whole p) c e = meets_as (Whole p) (Of F64) c refl e
right (Of F32) (Of (Decimal d)) c e = meets_as (Of (Decimal d)) (Of F64) c refl e
right (Of F32) (Of F64) c e = meets_as (Of F64) (Of F64) c refl e
right a b c e = cc

-- behind a whole number
on_whole : (p q : PType) (c : Operand) → common_operand (Whole p) (Whole q) ≡ Some (Whole q)
    → common_operand (Whole q) c ≡ Some c → common_operand (Whole p) c ≡ Some c
on_whole p q c e f = by (ptype_eq p q) refl e
  where
    by : (b : Bool) → ptype_eq p q ≡ b → (if b then Some (Whole p) else None) ≡ Some (Whole q)
        → common_operand (Whole p) c ≡ Some c
    by true k h =
        subst (λ r. common_operand (Whole r) c ≡ Some c) (sym (ptype_yes p q k)) f
    by false k h = cc

on : (a b c : Operand) → common_operand a b ≡ Some b → common_operand b c ≡ Some c
    → common_operand a c ≡ Some c
on (Of Plain) (Of Plain) c e f = f
on (Of Date) (Of Date) c e f = f
on (Of Timestamp) (Of Timestamp) c e f = f
on (Of F32) (Of F32) c e f = f
on (Of F64) (Of F64) c e f = f
on (Whole p) (Whole q) c e f = on_whole p q c e f
on (Whole p) (Of (Decimal d)) (Of (Decimal x)) e f =
    as_decimal _ _ (meet_on (whole p) d x (digits_are _ _ e) (digits_are _ _ f))
on (Of (Decimal y)) (Of (Decimal d)) (Of (Decimal x)) e f =
    as_decimal _ _ (meet_on y d x (digits_are _ _ e) (digits_are _ _ f))
on (Whole p) (Of (Decimal d)) (Of F64) e f = refl
on (Of (Decimal y)) (Of (Decimal d)) (Of F64) e f = refl
on (Whole p) (Of F64) (Of F64) e f = refl
on (Of (Decimal y)) (Of F64) (Of F64) e f = refl
on (Of F32) (Of F64) (Of F64) e f = refl
on a b c e f = cc

pub kinds_meet : KindsMeet
kinds_meet = record { left = left; right = right; on = λ a b c e f. on a b c e f }
