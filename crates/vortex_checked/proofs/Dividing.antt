-- Division by multiplication, for numbers below a bound b.
use Rattle.std.proofs.Common.{◌≡◌, ℕ, ◌+◌, ◌-◌, ◌*◌, ◌/◌, ◌<◌, ◌≤◌, arith, ap, ◌∙◌, ◌^◌, subst}
use Rattle.std.proofs.Math.Nat.{le_of_mul-le-mul_right, lt_of_mul-lt-mul_right, mul-le-mul_right}
use Rattle.std.proofs.Math.Nat.{mul-le-mul_left, div-mul-le_self, lt-div-mul-add, two-pow-succ}
use Rattle.std.proofs.Math.Nat.{div-lt_iff_lt-mul, le-div_iff_mul-le, div-div-eq-div-mul}
use Rattle.std.proofs.Math.Nat.{div-le_of_le-mul}
use Rattle.std.proofs.lemmas.Nat.{leading_top}
use lib.Count.{count_leading_zeros}
use Rattle.vortex_checked.specs.Reciprocal.{IsReciprocal}

-- a quotient by its two bounds
quotient_between : (x t q : ℕ) → 0 < t → q * t ≤ x → x < (q + 1) * t → x / t ≡ q
quotient_between x t q h low high =
    let a : q ≤ x / t = (le-div_iff_mul-le {k = t} {x = q} {y = x} h).1 low in
    let b : x / t < q + 1 = (div-lt_iff_lt-mul {k = t} {x = x} {y = q + 1} h).1 high in
    omega (arith, a, b)

-- division by multiplication, for numbers below the bound
pub by_reciprocal : (n bound t d m : ℕ) → n < bound → IsReciprocal bound t d m
    → (n * m) / t ≡ n / d
by_reciprocal n bound t d m h r =
    quotient_between (n * m) t (n / d) (omega (arith, r.2))
    (le_of_mul-le-mul_right {m = n / d * t} {n = n * m} {k = d} (omega (arith, low, product)) r.0)
    (lt_of_mul-lt-mul_right d {m = n * m} {n = (n / d + 1) * t}
    (omega (arith, high, product, small)))
  where
    scaled : m * d ≡ t + (m * d - t)
    scaled = omega (arith, r.1)

    product : n * m * d ≡ n * t + n * (m * d - t)
    product = omega (arith, ap (λ x. n * x) scaled)

    low : n / d * d * t ≤ n * t
    low = mul-le-mul_right t (div-mul-le_self n d)

    high : (n + 1) * t ≤ (n / d * d + d) * t
    high = mul-le-mul_right t (omega (arith, lt-div-mul-add {a = n} {b = d} r.0))

    small : n * (m * d - t) < t
    small =
        omega (arith, r.2, mul-le-mul_right {m = n} {n = bound} (m * d - t) (omega (arith, h)))

-- a quotient that is rounded up
record Ceiling (x d q : ℕ) : Type 0 where
  enough : x ≤ q * d
  least : q * d < x + d

ceiling : (x d : ℕ) → 0 < d → Ceiling x d ((x + (d - 1)) / d)
ceiling x d h =
    let low = div-mul-le_self (x + (d - 1)) d in
    let high = lt-div-mul-add {a = x + (d - 1)} {b = d} h in
    record { enough = omega (arith, low, high); least = omega (arith, low, high) }

-- p is the highest power of two below the divisor
module _ (d p : ℕ) (one : 1 < d) (below : p < d) (most : d ≤ 2 * p) where
  -- of numbers below b
  module _ (b : ℕ) (some : 0 < b) where
    sum : (2 * p - d) * b + d * b ≡ 2 * p * b
    sum = omega (arith, ap (λ x. x * b) whole)
      where
        whole : (2 * p - d) + d ≡ 2 * p
        whole = omega (arith, most)

    pub full_exact : IsReciprocal b (2 * b * p) d (b + ((2 * p - d) * b + (d - 1)) / d)
    full_exact =
        let up = ceiling ((2 * p - d) * b) d (omega arith) in
        let error : (b + ((2 * p - d) * b + (d - 1)) / d) * d - 2 * b * p ≤ d - 1 =
        omega (arith, up.enough, up.least, sum) in
        let scaled = mul-le-mul_left {m = (b + ((2 * p - d) * b + (d - 1)) / d) * d - 2 * b * p}
        {n = d - 1} b error in
        let rest : b * (d - 1) + b ≡ b * d = omega (arith, ap (λ x. b * x) (less one)) in (
          omega arith,
          omega (arith, up.enough, sum),
          omega (arith, scaled, rest, mul-le-mul_left {m = d} {n = 2 * p} b most),
        )
      where
        less : 1 < d → d - 1 + 1 ≡ d
        less h = omega (arith, h)

    pub full_fits : d < b → ((2 * p - d) * b + (d - 1)) / d < b
    full_fits fits =
        let up = ceiling ((2 * p - d) * b) d (omega arith) in
        let part = mul-le-mul_right {m = 2 * p - d + 1} {n = d} b (omega (arith, below)) in
        lt_of_mul-lt-mul_right d {m = ((2 * p - d) * b + (d - 1)) / d} {n = b}
        (omega (arith, up.least, part, fits))

  -- of numbers up to h
  module _ (h : ℕ) (fits : d ≤ h) where
    pub half_exact : IsReciprocal (h + 1) (2 * h * p) d ((2 * h * p + (d - 1)) / d)
    half_exact =
        let up = ceiling (2 * h * p) d (omega arith) in
        let error : (2 * h * p + (d - 1)) / d * d - 2 * h * p ≤ d - 1 =
        omega (arith, up.enough, up.least) in
        let scaled = mul-le-mul_left {m = (2 * h * p + (d - 1)) / d * d - 2 * h * p} {n = d - 1} h
        error in
        let rest : h * (d - 1) + h ≡ h * d = omega (arith, ap (λ x. h * x) (less one)) in (
          omega arith,
          omega (arith, up.enough),
          omega (arith, error, scaled, rest, mul-le-mul_left {m = d} {n = 2 * p} h most, fits),
        )
      where
        less : 1 < d → d - 1 + 1 ≡ d
        less k = omega (arith, k)

    pub half_fits : (2 * h * p + (d - 1)) / d < 2 * h
    half_fits =
        let up = ceiling (2 * h * p) d (omega arith) in
        let part = mul-le-mul_left {m = p + 1} {n = d} h (omega (arith, below)) in
        lt_of_mul-lt-mul_right d {m = (2 * h * p + (d - 1)) / d} {n = 2 * h}
        (omega (arith, up.least, part, fits))

-- the highest power of two up to a number of w bits
pub top_power : (w a : ℕ) → 0 < w → 0 < a → a < 2 ^ w
    → (2 ^ (w - 1 - count_leading_zeros w a) ≤ a)
    × (a < 2 * 2 ^ (w - 1 - count_leading_zeros w a))
top_power w a width some fits =
    let top = leading_top w a some fits in
    let place : top.0 ≡ w - 1 - count_leading_zeros w a = omega (arith, top.1) in
    subst (λ s. (2 ^ s ≤ a) × (a < 2 * 2 ^ s)) place
    (top.2, omega (arith, top.3, two-pow-succ top.0))

-- with an inverse whose highest bit, b, is added separately
pub by_wide_reciprocal : (b n d m p : ℕ) → 0 < b → n < b → m < b
    → IsReciprocal b (2 * b * p) d (b + m)
    → (n * m / b + (n - n * m / b) / 2) / p ≡ n / d
by_wide_reciprocal b n d m p some small fits r =
    ap (λ x. x / p) whole
    ∙ div-div-eq-div-mul (n * (b + m)) (2 * b) p
    ∙ by_reciprocal n b (2 * b * p) d (b + m) small r
  where
    high : n * m / b ≤ n
    high =
        div-le_of_le-mul b (omega (arith, mul-le-mul_left {m = m} {n = b} n (omega (arith, fits))))

    low : n * m / b * b ≤ n * m
    low = div-mul-le_self (n * m) b

    over : n * m < n * m / b * b + b
    over = lt-div-mul-add {a = n * m} {b = b} some

    half : n * m / b + (n - n * m / b) / 2 ≡ (n + n * m / b) / 2
    half = omega (arith, high)

    sum : (n * m + n * b) / b ≡ n * m / b + n
    sum =
        quotient_between (n * m + n * b) b (n * m / b + n) some (omega (arith, low))
        (omega (arith, over))

    whole : n * m / b + (n - n * m / b) / 2 ≡ n * (b + m) / (2 * b)
    whole =
        half
        ∙ (λ i. sum_turned i / 2)
        ∙ div-div-eq-div-mul (n * (b + m)) b 2
        ∙ ap (λ k. n * (b + m) / k) twice
      where
        sum_turned : n + n * m / b ≡ n * (b + m) / b
        sum_turned = omega (arith, sum, ap (λ x. x / b) spread)
          where
            spread : n * (b + m) ≡ n * m + n * b
            spread = omega arith

        twice : b * 2 ≡ 2 * b
        twice = omega arith

-- a quotient by 2 or more is at most half
pub at_most_half : (n d : ℕ) → 1 < d → n / d * 2 ≤ n
at_most_half n d h =
    omega (arith, div-mul-le_self n d, mul-le-mul_left {m = 2} {n = d} (n / d) (omega (arith, h)))
