-- Exact results lie between those of the ends.
use Rattle.std.specs.Prelude.{◌≡◌, ℕ, suc, ◌+◌, ◌≤◌, ◌≤ℤ◌, ◌*ℤ◌, ◌+ℤ◌, ◌-ℤ◌, ℤ, pos}
use Rattle.std.specs.Prelude.{negsuc, int_div, Some, true, refl}
use Rattle.std.specs.Int.{int_min, int_max}
use Rattle.std.proofs.Common.{arith}
use Rattle.std.proofs.lemmas.Int.{ints, clamps}
use Rattle.std.proofs.Math.Nat.{mul-le-mul_left}
use borrow.Author.Differences.{up, down}
use Rattle.vortex_errors.specs.declared.error.NumericOperator.{NumericOperator}
use Rattle.vortex_errors.specs.declared.error.NumericOperator.TheVariants.{Add, Sub, Mul, Div}
use Rattle.vortex_operators.specs.Arithmetic.{exact_result}
use Rattle.vortex_ranges.specs.Arithmetic.{excludes_zero, has_results, low_result, high_result}
use Rattle.vortex_ranges.proofs.Quotients.{by_dividend, by_divisor, no_zero, exact_quotient}

apart : (x y : ℤ) → x ≤ℤ y → up x + down y ≤ up y + down x
apart x y h = omega (arith, ints, h)

-- a factor above zero keeps the order, and one below turns it, on either side
times : (x y : ℤ) (k : ℕ) → x ≤ℤ y → (x *ℤ pos k) ≤ℤ (y *ℤ pos k)
times x y k h = omega (arith, ints, mul-le-mul_left k (apart x y h))

times_back : (x y : ℤ) (k : ℕ) → x ≤ℤ y → (y *ℤ negsuc k) ≤ℤ (x *ℤ negsuc k)
times_back x y k h = omega (arith, ints, mul-le-mul_left (suc k) (apart x y h))

left_times : (x y : ℤ) (k : ℕ) → x ≤ℤ y → (pos k *ℤ x) ≤ℤ (pos k *ℤ y)
left_times x y k h = omega (arith, ints, mul-le-mul_left k (apart x y h))

left_times_back : (x y : ℤ) (k : ℕ) → x ≤ℤ y → (negsuc k *ℤ y) ≤ℤ (negsuc k *ℤ x)
left_times_back x y k h = omega (arith, ints, mul-le-mul_left (suc k) (apart x y h))

module _ (l h x : ℤ) (d : l ≤ℤ x) (e : x ≤ℤ h) where
  abbrev Between : ℤ → ℤ → ℤ → Type 0
  Between a b z = (int_min a b ≤ℤ z) × (z ≤ℤ int_max a b)

  by_right : (k : ℤ) → Between (l *ℤ k) (h *ℤ k) (x *ℤ k)
  by_right (pos k) =
      (omega (arith, ints, clamps, times l x k d), omega (arith, ints, clamps, times x h k e))
  by_right (negsuc k) = (
    omega (arith, ints, clamps, times_back x h k e),
    omega (arith, ints, clamps, times_back l x k d),
  )

  by_left : (k : ℤ) → Between (k *ℤ l) (k *ℤ h) (k *ℤ x)
  by_left (pos k) = (
    omega (arith, ints, clamps, left_times l x k d),
    omega (arith, ints, clamps, left_times x h k e),
  )
  by_left (negsuc k) = (
    omega (arith, ints, clamps, left_times_back x h k e),
    omega (arith, ints, clamps, left_times_back l x k d),
  )

below_four : (x y a b c d z : ℤ) → int_min x y ≤ℤ z → int_min a b ≤ℤ x → int_min c d ≤ℤ y
    → int_min (int_min a b) (int_min c d) ≤ℤ z
below_four x y a b c d z f g h = omega (arith, ints, clamps, f, g, h)

above_four : (x y a b c d z : ℤ) → z ≤ℤ int_max x y → x ≤ℤ int_max a b → y ≤ℤ int_max c d
    → z ≤ℤ int_max (int_max a b) (int_max c d)
above_four x y a b c d z f g h = omega (arith, ints, clamps, f, g, h)

abbrev pub Lies : ℤ × ℤ → ℤ → Type 0
Lies p z = (p.0 ≤ℤ z) × (z ≤ℤ p.1)

product : (p q : ℤ × ℤ) (a b : ℤ) → Lies p a → Lies q b
    → Lies (low_result Mul p q, high_result Mul p q) (a *ℤ b)
product p q a b d e =
    let one = by_right p.0 p.1 a d.0 d.1 b in
    let low = by_left q.0 q.1 b e.0 e.1 p.0 in
    let high = by_left q.0 q.1 b e.0 e.1 p.1 in (
      below_four (p.0 *ℤ b) (p.1 *ℤ b) (p.0 *ℤ q.0) (p.0 *ℤ q.1) (p.1 *ℤ q.0) (p.1 *ℤ q.1)
          (a *ℤ b) one.0 low.0 high.0,
      above_four (p.0 *ℤ b) (p.1 *ℤ b) (p.0 *ℤ q.0) (p.0 *ℤ q.1) (p.1 *ℤ q.0) (p.1 *ℤ q.1)
          (a *ℤ b) one.1 low.1 high.1,
    )

quotients : (p q : ℤ × ℤ) (a b : ℤ) → Lies p a → Lies q b → excludes_zero q ≡ true
    → Lies (low_result Div p q, high_result Div p q) (int_div a b)
quotients p q a b d e some =
    let one = by_dividend p.0 p.1 a b d.0 d.1 (no_zero q.0 q.1 b e.0 e.1 some) in
    let low = by_divisor q.0 q.1 b p.0 e.0 e.1 some in
    let high = by_divisor q.0 q.1 b p.1 e.0 e.1 some in (
      below_four (int_div p.0 b) (int_div p.1 b) (int_div p.0 q.0) (int_div p.0 q.1)
          (int_div p.1 q.0) (int_div p.1 q.1) (int_div a b) one.0 low.0 high.0,
      above_four (int_div p.0 b) (int_div p.1 b) (int_div p.0 q.0) (int_div p.0 q.1)
          (int_div p.1 q.0) (int_div p.1 q.1) (int_div a b) one.1 low.1 high.1,
    )

-- a result, between the ends of the results
pub record IsResult (o : NumericOperator) (p q : ℤ × ℤ) (a b : ℤ) : Type 0 where
  pub result : ℤ
  pub exact : exact_result o a b ≡ Some result
  pub lies : Lies (low_result o p q, high_result o p q) result

pub has_result : (o : NumericOperator) (p q : ℤ × ℤ) (a b : ℤ) → Lies p a → Lies q b
    → has_results o q ≡ true → IsResult o p q a b
has_result Add p q a b d e h = record {
  result = a +ℤ b;
  exact = refl;
  lies = (omega (arith, ints, d.0, e.0), omega (arith, ints, d.1, e.1));
}
has_result Sub p q a b d e h = record {
  result = a -ℤ b;
  exact = refl;
  lies = (omega (arith, ints, d.0, e.1), omega (arith, ints, d.1, e.0));
}
has_result Mul p q a b d e h =
    record { result = a *ℤ b; exact = refl; lies = product p q a b d e }
has_result Div p q a b d e h = record {
  result = int_div a b;
  exact = exact_quotient a b (no_zero q.0 q.1 b e.0 e.1 h);
  lies = quotients p q a b d e h;
}
