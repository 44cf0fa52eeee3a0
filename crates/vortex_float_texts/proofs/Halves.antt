-- A product in two parts, and its last bits.
use Rattle.std.proofs.Common.{◌≡◌, ◌≤◌, ◌<◌, ◌+◌, ◌-◌, ◌*◌, ◌/◌, ◌%◌, ◌^◌, ◌∙◌, ℕ, ap, arith, sym}
use Rattle.std.proofs.Math.Nat.{div-div-eq-div-mul, div-lt_iff_lt-mul, le_refl, mul-le-mul}
use Rattle.std.proofs.Math.Arith.{mod-mul}
use lib.Pow.{pow-add}
use Rattle.vortex_float_texts.proofs.Powers.{two_positive}

pub product_parts : (row by : ℕ)
    → (row / 18446744073709551616 * by + row % 18446744073709551616 * by / 18446744073709551616
    ≡ row * by / 18446744073709551616)
    × (row % 18446744073709551616 * by % 18446744073709551616 ≡ row * by % 18446744073709551616)
product_parts row by =
    let parts : row % 18446744073709551616 + row / 18446744073709551616 * 18446744073709551616 ≡ row = omega arith in
    let whole : row % 18446744073709551616 * by + row / 18446744073709551616 * by * 18446744073709551616 ≡ row * by = omega (arith, ap (λ t. t * by) parts) in
    (omega (arith, whole), omega (arith, whole))

power : (s : ℕ) → 64 ≤ s → 2 ^ (s - 64) * 18446744073709551616 ≡ 2 ^ s
power s h =
    let same : (s - 64) + 64 ≡ s = omega arith in
    sym (pow-add 2 (s - 64) 64) ∙ ap (λ k. 2 ^ k) same

pub front_is : (v s : ℕ) → 64 ≤ s → v / 18446744073709551616 / 2 ^ (s - 64) ≡ v / 2 ^ s
front_is v s h =
    div-div-eq-div-mul v 18446744073709551616 (2 ^ (s - 64))
    ∙ ap (λ n. v / n) (omega (arith, power s h))

pub rest_is : (v s : ℕ) → 64 ≤ s
    → v % 2 ^ s ≡ v / 18446744073709551616 % 2 ^ (s - 64) * 18446744073709551616 + v % 18446744073709551616
rest_is v s h =
    ap (λ n. v % n) (sym (power s h))
    ∙ mod-mul v {m = 2 ^ (s - 64)} {c = 18446744073709551616} (two_positive (s - 64)) (omega arith)

pub front_small : (high unit : ℕ) → high < 340282366920938463463374607431768211456
    → 70368744177664 ≤ unit → high / unit < 4835703278458516698824704
front_small high unit h k =
    (div-lt_iff_lt-mul {k = unit} {x = high} {y = 4835703278458516698824704} (omega (arith, k))).1
    (omega (arith, h, mul-le-mul (le_refl 4835703278458516698824704) k))
