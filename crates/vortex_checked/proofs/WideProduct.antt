-- The overflow word of a product of two numbers, in twice their bits.
use Rattle.std.proofs.Common.{◌≡◌, ℕ, zero, suc, ◌+◌, ◌-◌, ◌*◌, ◌/◌, ◌%◌, ◌<◌, ◌≤◌, ◌^◌, ◌*ℤ◌}
use Rattle.std.proofs.Common.{refl, sym, ap, ◌∙◌, subst, arith, Bool, true, false, pos, negsuc, ℤ, FitsSigned, inl, inr}
use Rattle.std.proofs.Common.{div-add-mod', mul-le-mul_left, mul-le-mul_right, cond}
use Rattle.std.specs.Prelude.{◌⊎◌, int_lt, unsigned_abs}
use Rattle.std.proofs.lemmas.Bool.{cases_lt}
use Rattle.std.proofs.lemmas.Nat.{div_below, le-div, mod_below}
use Rattle.std.specs.Bool.{FalseIff}
use Rattle.std.specs.Int.{Width, w16, w32, w64, w128, cast_signed, cast_unsigned, int_wrap, bit_at}
use Rattle.std.specs.Int.Bits.{bit_xor}
use Rattle.std.proofs.lemmas.Int.{ints, fits_signed_mul, int_rem_euclid_is, to_z_pos}
use Rattle.std.proofs.lemmas.Nat.Bits.{bit_at-zero, bit_at-lt, bit_at_xor, same_from_bits}
use mir.Val.{bits, hbits}
use mir.ValLaws.{to_z-neg}
use Rattle.vortex_checked.specs.Evidence.{is_nonzero}
use Rattle.vortex_checked.specs.Exact.{sign_word, wide_evidence}

-- how the powers of two of a width and of twice that width are related
pub record IsTwice (w wide : Width) : Type 0 where
  whole : 2 ^ bits w ≡ 2 ^ hbits w + 2 ^ hbits w
  some : 0 < 2 ^ hbits w
  wide_whole : 2 ^ bits wide ≡ 2 ^ bits w * 2 ^ bits w
  wide_half : 2 ^ hbits wide ≡ 2 ^ hbits w * 2 ^ bits w

pub twice_16 : IsTwice w16 w32
twice_16 = record { whole = refl; some = omega arith; wide_whole = refl; wide_half = refl }

pub twice_32 : IsTwice w32 w64
twice_32 = record { whole = refl; some = omega arith; wide_whole = refl; wide_half = refl }

pub twice_64 : IsTwice w64 w128
twice_64 = record { whole = refl; some = omega arith; wide_whole = refl; wide_half = refl }

-- bits that differ nowhere
xor_same : (a : ℕ) → bit_xor a a ≡ 0
xor_same a = same_from_bits (bit_xor a a) 0 (λ i. omega (arith, bit_at_xor a a i, bit_at-zero i))

xor_differs : (a b : ℕ) → bit_xor a b ≡ 0 → a ≡ b
xor_differs a b e =
    same_from_bits a b
    (λ i.
    omega (
      arith,
      sym (bit_at_xor a b i) ∙ ap (λ n. bit_at n i) e ∙ bit_at-zero i,
      bit_at-lt a i,
      bit_at-lt b i,
    ))

-- a word that is nonzero where two words differ
told : {P : Type 0} (a b : ℕ) → (a ≡ b → P) → (P → a ≡ b) → FalseIff (is_nonzero (bit_xor a b)) P
told {P} a b there back = by (bit_xor a b) refl
  where
    by : (n : ℕ) → bit_xor a b ≡ n → FalseIff (is_nonzero n) P
    by zero e = there (xor_differs a b e)
    by (suc n) e = λ p. let same : bit_xor a b ≡ 0 =
        subst (λ c. bit_xor a c ≡ 0) (back p) (xor_same a) in
        omega (arith, e, same)

same_told : {P Q : Type 0} (b : Bool) → FalseIff b P → (P → Q) → (Q → P) → FalseIff b Q
same_told true h there back = λ q. h (back q)
same_told false h there back = there h

module _ (w wide : Width) (twice : IsTwice w wide) where
  pub product_fits : (a b : ℤ) → FitsSigned w a → FitsSigned w b → FitsSigned wide (a *ℤ b)
  product_fits a b f g =
      fits_signed_mul wide a b (2 ^ hbits w) (2 ^ hbits w) (bound a f) (bound b g)
      (omega (arith, twice.wide_half, twice.whole, twice.some, mul-le-mul_left (2 ^ hbits w) less))
    where
      bound : (z : ℤ) → FitsSigned w z → unsigned_abs z ≤ 2 ^ hbits w
      bound (pos n) f = omega (arith, f.sfits)
      bound (negsuc n) f = omega (arith, f.sfits)

      less : 2 ^ hbits w + 1 ≤ 2 ^ bits w
      less = omega (arith, twice.whole, twice.some)

  some : 0 < 2 ^ bits w
  some = omega (arith, twice.whole, twice.some)

  below : (n : ℕ) → n < 2 ^ hbits wide → n < 2 ^ bits wide
  below n h =
      omega (arith, h, twice.wide_half, twice.wide_whole, ap (λ x. x * 2 ^ bits w) twice.whole)

  -- the lower half, read with its sign
  wrapped : (z : ℤ) → FitsSigned wide z
      → int_wrap w z ≡ cast_signed w (cast_unsigned wide z % 2 ^ bits w)
  unfolding int_wrap
  wrapped (pos n) f =
      ap (λ r. cast_signed w (unsigned_abs r))
      (int_rem_euclid_is (pos n) (pos (2 ^ bits w)) (2 ^ bits w) 0 n some refl
      (omega (arith, ints)))
  wrapped (negsuc n) f =
      ap (λ r. cast_signed w (unsigned_abs r))
      (int_rem_euclid_is (negsuc n) (pos (2 ^ bits w)) (2 ^ bits w) (2 ^ bits w)
      (2 ^ bits wide - suc n) some refl
      (omega (arith, ints, below n f.sfits, twice.wide_whole)))

  -- the sign of a lower half
  low : (k : ℕ) → k < 2 ^ hbits w → sign_word w (cast_signed w k) ≡ 0
  low k h =
      let none : int_lt (pos k) (pos 0) ≡ false = grind (arith) in
      ap (sign_word w) (to_z_pos w k h) ∙ ap (λ b. cond b (2 ^ bits w - 1) 0) none

  high : (k : ℕ) → 2 ^ hbits w ≤ k → k < 2 ^ bits w
      → sign_word w (cast_signed w k) ≡ 2 ^ bits w - 1
  high k g h =
      let j = 2 ^ bits w - suc k in
      let back : 2 ^ bits w - suc j ≡ k = omega arith in
      let small : j < 2 ^ hbits w = omega (arith, twice.whole) in
      subst (λ n. sign_word w (cast_signed w n) ≡ 2 ^ bits w - 1) back
      (ap (sign_word w) (to_z-neg w j small))

  -- the overflow word of a number, from its bits in the whole width
  abbrev of_bits : ℕ → ℕ
  of_bits m =
      bit_xor (m / 2 ^ bits w) (sign_word w (cast_signed w (m % 2 ^ bits w)))

  by_sign : (m s : ℕ) → {P : Type 0} → sign_word w (cast_signed w (m % 2 ^ bits w)) ≡ s
      → (m / 2 ^ bits w ≡ s → P) → (P → m / 2 ^ bits w ≡ s) → FalseIff (is_nonzero (of_bits m)) P
  by_sign m s {P} e there back =
      subst (λ s. FalseIff (is_nonzero (bit_xor (m / 2 ^ bits w) s)) P) (sym e)
      (told (m / 2 ^ bits w) s there back)

  positive : (n : ℕ) → n < 2 ^ hbits wide → FalseIff (is_nonzero (of_bits n)) (n < 2 ^ hbits w)
  positive n f = by (cases_lt (n % 2 ^ bits w) (2 ^ hbits w))
    where
      upper : n / 2 ^ bits w < 2 ^ hbits w
      upper = div_below n (2 ^ bits w) (2 ^ hbits w) some (omega (arith, f, twice.wide_half))

      whole : n / 2 ^ bits w * 2 ^ bits w + n % 2 ^ bits w ≡ n
      whole = div-add-mod' n (2 ^ bits w)

      by : (n % 2 ^ bits w < 2 ^ hbits w) ⊎ (2 ^ hbits w ≤ n % 2 ^ bits w)
          → FalseIff (is_nonzero (of_bits n)) (n < 2 ^ hbits w)
      by (inl h) =
          by_sign n 0 (low (n % 2 ^ bits w) h)
          (λ e. omega (arith, whole, h, ap (λ q. q * 2 ^ bits w) e))
          (λ p.
          let none = div_below n (2 ^ bits w) 1 some (omega (arith, p, twice.whole)) in
          omega (arith, none))
      by (inr h) =
          by_sign n (2 ^ bits w - 1)
          (high (n % 2 ^ bits w) h (mod_below n (2 ^ bits w) some))
          (λ e. absurd (omega (arith, upper, e, twice.whole, twice.some)))
          (λ p. absurd (omega (arith, whole, h, p)))

  -- n + 1 below zero
  negative : (m n : ℕ) → m + suc n ≡ 2 ^ bits wide → n < 2 ^ hbits wide
      → FalseIff (is_nonzero (of_bits m)) (n < 2 ^ hbits w)
  negative m n sum f = by (cases_lt (m % 2 ^ bits w) (2 ^ hbits w))
    where
      square : m + suc n ≡ 2 ^ bits w * 2 ^ bits w
      square = sum ∙ twice.wide_whole

      halves : 2 ^ bits w * 2 ^ bits w ≡ (2 ^ hbits w + 2 ^ hbits w) * 2 ^ bits w
      halves = ap (λ x. x * 2 ^ bits w) twice.whole

      lower : 2 ^ hbits w ≤ m / 2 ^ bits w
      lower =
          le-div (2 ^ hbits w) m (2 ^ bits w) some
          (omega (arith, square, halves, f, twice.wide_half))

      upper : m / 2 ^ bits w < 2 ^ bits w
      upper = div_below m (2 ^ bits w) (2 ^ bits w) some (omega (arith, square))

      next : (m / 2 ^ bits w + 1) * 2 ^ bits w ≤ 2 ^ bits w * 2 ^ bits w
      next = mul-le-mul_right (2 ^ bits w) (omega (arith, upper))

      whole : m / 2 ^ bits w * 2 ^ bits w + m % 2 ^ bits w ≡ m
      whole = div-add-mod' m (2 ^ bits w)

      last : (2 ^ bits w - 1 + 1) * 2 ^ bits w ≡ 2 ^ bits w * 2 ^ bits w
      last = ap (λ x. x * 2 ^ bits w) (omega (arith, some))

      by : (m % 2 ^ bits w < 2 ^ hbits w) ⊎ (2 ^ hbits w ≤ m % 2 ^ bits w)
          → FalseIff (is_nonzero (of_bits m)) (n < 2 ^ hbits w)
      by (inl h) =
          by_sign m 0 (low (m % 2 ^ bits w) h)
          (λ e. absurd (omega (arith, lower, e, twice.some)))
          (λ p. absurd (omega (arith, whole, next, h, p, square, twice.whole)))
      by (inr h) =
          by_sign m (2 ^ bits w - 1)
          (high (m % 2 ^ bits w) h (mod_below m (2 ^ bits w) some))
          (λ e.
          let times = ap (λ q. (q + 1) * 2 ^ bits w) e in
          omega (arith, whole, times, last, h, square, twice.whole))
          (λ p.
          let most =
          le-div (2 ^ bits w - 1) m (2 ^ bits w) some
          (omega (arith, last, square, p, twice.whole)) in
          omega (arith, most, upper))

  pub wide_tells : {P : Type 0} (z : ℤ) → FitsSigned wide z → (FitsSigned w z → P)
      → (P → FitsSigned w z) → FalseIff (is_nonzero (wide_evidence w wide z)) P
  wide_tells {P} z f there back =
      subst
      (λ y. FalseIff (is_nonzero (bit_xor (cast_unsigned wide z / 2 ^ bits w) (sign_word w y))) P)
      (sym (wrapped z f)) (by z f there back)
    where
      by : (z : ℤ) → FitsSigned wide z → (FitsSigned w z → P) → (P → FitsSigned w z)
          → FalseIff (is_nonzero (of_bits (cast_unsigned wide z))) P
      by (pos n) f there back =
          same_told _ (positive n f.sfits) (λ h. there (record { sfits = h })) (λ p. (back p).sfits)
      by (negsuc n) f there back =
          same_told _
          (negative (2 ^ bits wide - suc n) n (omega (arith, below n f.sfits)) f.sfits)
          (λ h. there (record { sfits = h })) (λ p. (back p).sfits)
