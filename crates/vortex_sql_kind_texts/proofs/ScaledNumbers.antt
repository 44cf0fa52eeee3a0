-- Products of numbers and powers of ten: which are too large for a decimal, and that 128 bits have
-- the others.
use Rattle.std.proofs.Common.{◌≡◌, ◌≤◌, ◌<◌, ◌^◌, ◌+◌, ◌-◌, ◌*◌, ◌*ℤ◌, ℕ, zero, suc, ℤ, pos, negsuc, None, false, arith, refl, subst, FitsSigned}
use Rattle.std.specs.Prelude.{nat_lt, unsigned_abs}
use Rattle.std.specs.Int.{w128}
use Rattle.std.proofs.Math.Nat.{le_refl, mul-le-mul}
use Rattle.std.proofs.lemmas.Bool.Decides.{nat_tests}
use Rattle.jiff_core.proofs.SignedLemmas.{product_within, signed_arith, unsigned_abs-product}
use Rattle.vortex_logical.specs.Decimals.{shifted, within_digits}
use Rattle.vortex_sql_kind_texts.specs.DecimalRounding.{with_sign}
use Rattle.vortex_sql_kind_texts.specs.StoredRows.{ten_bound, ten_more, ten_positive}

not_less : (a b : ℕ) → b ≤ a → nat_lt a b ≡ false
not_less a b h = grind (arith, nat_tests, h)

pub too_large : (z : ℤ) (k p : ℕ) → 1000000000000000000 ≤ unsigned_abs z → p ≤ 18
    → within_digits p (shifted z k) ≡ None
too_large z k p h l =
    let size = unsigned_abs-product z (pos (10 ^ k)) in
    let more = mul-le-mul (le_refl (unsigned_abs z)) (ten_positive k) in
    let large : 10 ^ p ≤ unsigned_abs (shifted z k) = rw size (omega (arith, ten_bound p l, h, more)) in
    rw (not_less (unsigned_abs (shifted z k)) (10 ^ p) large) refl

pub product_fits : (z : ℤ) (q : ℕ) → unsigned_abs z < 1000000000000000000
    → q ≤ 1000000000000000000 → FitsSigned w128 (z *ℤ pos q)
product_fits z q h k =
    let small = product_within z (pos q) 1000000000000000000 1000000000000000000 (omega (arith, h)) k in
    omega (arith, signed_arith, small)

-- no fewer than 19 digits
pub no_product : (n k : ℕ) → 0 < n → 18 < k → 1000000000000000000 ≤ n * 10 ^ k
no_product n k h l =
    let same : 18 + (k - 18) ≡ k = omega (arith, l) in
    let power = subst (λ j. 1000000000000000000 ≤ 10 ^ j) same (ten_more 18 (k - 18)) in
    omega (arith, power, mul-le-mul h (le_refl (10 ^ k)))

sign_keeps : (z : ℤ) (n : ℕ) → unsigned_abs (with_sign z n) ≡ n
sign_keeps (pos a) n = refl
sign_keeps (negsuc a) zero = refl
sign_keeps (negsuc a) (suc n) = refl

pub too_many_units : (z : ℤ) (n p : ℕ) → 1000000000000000000 ≤ n → p ≤ 18
    → within_digits p (with_sign z n) ≡ None
too_many_units z n p h l =
    let large : 10 ^ p ≤ unsigned_abs (with_sign z n) = rw (sign_keeps z n) (omega (arith, ten_bound p l, h)) in
    rw (not_less (unsigned_abs (with_sign z n)) (10 ^ p) large) refl
