-- Values that are converted to the kind in which they meet are in the order of the values.
use Rattle.std.proofs.Common.{◌≡◌, ◌∙◌, ℕ, ℤ, ◌+◌, ◌-◌, ◌^◌, ◌<◌, ◌≤◌, Bool, true, false, Some, None, arith, ap, sym, subst, pos}
use Rattle.std.specs.Prelude.{if◌then◌else◌, nat_lt, unsigned_abs, min, max}
use Rattle.std.specs.Ordering.{int_cmp}
use Rattle.std.proofs.Math.Nat.{mul-lt-mul_of_pos_right, lt_of_lt_of_le}
use lib.Pow.{pow-add}
use lib.Ieee.{binary32, binary64}
use lib.Ieee.Fits.{fits_widens}
use Rattle.jiff_core.proofs.SignedLemmas.{unsigned_abs-product}
use Rattle.vortex_logical.specs.Decimals.{shifted, HasDigits, within_digits}
use Rattle.vortex_logical.specs.CommonKinds.{common_digits}
use Rattle.vortex_logical.specs.FloatKeys.{float_of_key}
use Rattle.vortex_logical.specs.MeetingLaws.{CommonDigitsOrder, CommonDigitsHold, WideKeysAreOrdered}
use Rattle.vortex_logical.proofs.DecimalLaws.{ten_pos, ten_more, orders}
use Rattle.vortex_logical.proofs.FloatKeyOrder.{keys_are_ordered}
use Rattle.vortex_logical.proofs.CellLemmas.{float_fits, key_back}

within_is : (p : ℕ) (z u : ℤ) → within_digits p z ≡ Some u → z ≡ u
within_is p z u e = by (nat_lt (unsigned_abs z) (10 ^ p)) e
  where
    by : (b : Bool) → (if b then Some z else None) ≡ Some u → z ≡ u
    by true e = cc
    by false e = cc

left_most : (m n : ℕ) → m ≤ max m n
left_most m n = omega arith

right_most : (m n : ℕ) → n ≤ max m n
right_most m n = omega arith

pub common_digits_order : CommonDigitsOrder
common_digits_order a b m n u v e f =
    let c = common_digits a b in
    (λ i. int_cmp (sym (within_is c.precision (shifted m (c.scale - a.scale)) u e) i)
    (sym (within_is c.precision (shifted n (c.scale - b.scale)) v f) i))
    ∙ orders m n a.scale b.scale c.scale (left_most a.scale b.scale) (right_most a.scale b.scale)

within_held : (p : ℕ) (z : ℤ) → unsigned_abs z < 10 ^ p → within_digits p z ≡ Some z
within_held p z h = λ i. if less i then Some z else None
  where
    less : nat_lt (unsigned_abs z) (10 ^ p) ≡ true
    less = grind (arith, h)

-- a number of p digits with k more has p + k
digits_more : (p k q : ℕ) (m : ℤ) → HasDigits p m → p + k ≤ q → HasDigits q (shifted m k)
digits_more p k q m h le =
    subst (λ n. n < 10 ^ q) (sym (unsigned_abs-product m (pos (10 ^ k))))
    (lt_of_lt_of_le (mul-lt-mul_of_pos_right h (ten_pos k))
    (omega (arith, pow-add 10 p k, ten_more (p + k) (q - (p + k)), ap (λ n. 10 ^ n) (split (p + k) q le))))
  where
    split : (n q : ℕ) → n ≤ q → n + (q - n) ≡ q
    split n q h = omega arith

pub common_digits_hold : CommonDigitsHold
common_digits_hold a b m d h few =
    let c = common_digits a b in
    within_held c.precision (shifted m (c.scale - a.scale))
    (digits_more a.precision (c.scale - a.scale) c.precision m h (enough a.precision a.scale b.precision b.scale d.2 few))
  where
    enough : (p s q t : ℕ) → s ≤ p → max (p - s) (q - t) + max s t ≤ 18
        → p + (max s t - s) ≤ min 18 (max (p - s) (q - t) + max s t)
    enough p s q t h few = omega (arith, h, few)

pub wide_keys_are_ordered : WideKeysAreOrdered
wide_keys_are_ordered y z h k =
    let u = float_of_key binary32 y in
    let v = float_of_key binary32 z in
    let fu = float_fits binary32 y in
    let fv = float_fits binary32 z in
    keys_are_ordered binary64 u v (fits_widens u fu) (fits_widens v fv)
    ∙ sym (keys_are_ordered binary32 u v fu fv)
    ∙ (λ i. int_cmp (key_back binary32 y h i) (key_back binary32 z k i))
