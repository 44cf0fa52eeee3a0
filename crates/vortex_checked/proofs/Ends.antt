-- The range of factors' operands within which a product fits.
use Rattle.std.proofs.Common.{◌≡◌, ℕ, zero, suc, ◌*◌, ◌/◌, ◌<◌, ◌≤◌, ◌↔◌, ℤ, pos}
use Rattle.std.proofs.Common.{negsuc, ◌*ℤ◌, ◌≤ℤ◌, neg_ℤ, refl, sym, subst, arith, Bool}
use Rattle.std.proofs.Common.{true, false, Option, Some}
use Rattle.std.specs.Prelude.{int_lt, ◌||◌}
use Rattle.std.specs.Bool.{FalseIff}
use Rattle.std.proofs.lemmas.Int.{ints}
use Rattle.std.proofs.Math.Nat.{le-div_iff_mul-le}
use Rattle.std.proofs.Math.IntN.{negsuc-*ℤ-pos, pos-*ℤ-negsuc, pos-*ℤ-pos, negsuc-*ℤ-negsuc}
use Rattle.vortex_checked.specs.Exact.{IsWithin, HasResult, quotient}
use Rattle.vortex_checked.specs.Factor.{AreEnds}

-- a product compared with the end of the type
within : (n d m : ℕ) → 0 < d → (n ≤ m / d) ↔ (n * d ≤ m)
within n d m h = le-div_iff_mul-le {k = d} {x = n} {y = m} h

not_above : (q n : ℕ) → (pos n ≤ℤ pos q) ↔ (n ≤ q)
not_above q n = (λ h. omega (arith, ints, h), λ h. omega (arith, ints, h))

not_below : (q n : ℕ) → (neg_ℤ (pos q) ≤ℤ negsuc n) ↔ (suc n ≤ q)
not_below q n = (λ h. omega (arith, ints, h), λ h. omega (arith, ints, h))

neg_below : (q n : ℕ) → neg_ℤ (pos q) ≤ℤ pos n
neg_below q n = omega (arith, ints)

below_pos : (q n : ℕ) → negsuc n ≤ℤ pos q
below_pos q n = omega (arith, ints)

-- a type from -low to high
module _ (low high : ℕ) where
  abbrev Fits : ℤ → Type 0
  Fits z = (neg_ℤ (pos low) ≤ℤ z) × (z ≤ℤ pos high)

  fits_pos : (n : ℕ) → Fits (pos n) ↔ (n ≤ high)
  fits_pos n = (λ h. (not_above high n).0 h.1, λ h. (neg_below low n, (not_above high n).1 h))

  fits_neg : (n : ℕ) → Fits (neg_ℤ (pos n)) ↔ (n ≤ low)
  fits_neg zero = (λ h. omega arith, λ h. (neg_below low 0, omega (arith, ints)))
  fits_neg (suc n) =
      (λ h. (not_below low n).0 h.0, λ h. ((not_below low n).1 h, below_pos high n))

  -- the ends, where the factor is above zero: d
  ends_above : (d : ℕ) → 0 < d → (x : ℤ)
      → ((neg_ℤ (pos (low / d)) ≤ℤ x) × (x ≤ℤ pos (high / d))) ↔ Fits (x *ℤ pos d)
  ends_above d h (pos n) =
      let e = pos-*ℤ-pos n d in
      let a = not_above (high / d) n in
      let b = within n d high h in
      let f = fits_pos (n * d) in (
        λ p. subst Fits (sym e) (f.1 (b.0 (a.0 p.1))),
        λ p. (neg_below (low / d) n, a.1 (b.1 (f.0 (subst Fits e p)))),
      )
  ends_above d h (negsuc n) =
      let e = negsuc-*ℤ-pos n d in
      let a = not_below (low / d) n in
      let b = within (suc n) d low h in
      let f = fits_neg (suc n * d) in (
        λ p. subst Fits (sym e) (f.1 (b.0 (a.0 p.0))),
        λ p. (a.1 (b.1 (f.0 (subst Fits e p))), below_pos (high / d) n),
      )

  -- the ends, where the factor is below zero: -(d + 1)
  ends_below : (d : ℕ) → (x : ℤ)
      → ((neg_ℤ (pos (high / suc d)) ≤ℤ x) × (x ≤ℤ pos (low / suc d))) ↔ Fits (x *ℤ negsuc d)
  ends_below d (pos n) =
      let e = pos-*ℤ-negsuc n d in
      let a = not_above (low / suc d) n in
      let b = within n (suc d) low (omega arith) in
      let f = fits_neg (n * suc d) in (
        λ p. subst Fits (sym e) (f.1 (b.0 (a.0 p.1))),
        λ p. (neg_below (high / suc d) n, a.1 (b.1 (f.0 (subst Fits e p)))),
      )
  ends_below d (negsuc n) =
      let e = negsuc-*ℤ-negsuc n d in
      let a = not_below (high / suc d) n in
      let b = within (suc n) (suc d) high (omega arith) in
      let f = fits_pos (suc n * suc d) in (
        λ p. subst Fits (sym e) (f.1 (b.0 (a.0 p.0))),
        λ p. (a.1 (b.1 (f.0 (subst Fits e p))), below_pos (low / suc d) n),
      )

-- the quotient, where it is held, else the other number
abbrev pub IsQuotientOr : (least greatest : ℤ) → Option ℤ → (other z : ℤ) → Type 0
IsQuotientOr least greatest o other z =
    (HasResult least greatest o → Some z ≡ o) × (¬ HasResult least greatest o → z ≡ other)

-- the same for equal numbers
pub told_so : (least greatest a b f o p z : ℤ) → a ≡ b → o ≡ p
    → IsQuotientOr least greatest (quotient a f) o z
    → IsQuotientOr least greatest (quotient b f) p z
told_so least greatest a b f o p z e d h =
    subst (λ (k : ℤ). IsQuotientOr least greatest (quotient b f) k z) d
    (subst (λ (k : ℤ). IsQuotientOr least greatest (quotient k f) o z) e h)

-- an end outside the type is replaced by the type's own
module _ (least greatest x : ℤ) (in_type : IsWithin least greatest x) where
  lower : (v z : ℤ) → v ≤ℤ greatest → IsQuotientOr least greatest (Some v) least z
      → (z ≤ℤ x) ↔ (v ≤ℤ x)
  lower v z small is = by (int_lt v least) refl
    where
      by : (b : Bool) → int_lt v least ≡ b → (z ≤ℤ x) ↔ (v ≤ℤ x)
      by true e =
          let same : z ≡ least = is.1 (λ h. omega (arith, ints, h.0, e)) in (
            λ h. omega (arith, ints, e, in_type.0),
            λ h. subst (λ (y : ℤ). y ≤ℤ x) (sym same) in_type.0,
          )
      by false e =
          let held : Some z ≡ Some v = is.0 (omega (arith, ints, e), small) in
          let same : z ≡ v = cc in
          (λ h. subst (λ (y : ℤ). y ≤ℤ x) same h, λ h. subst (λ (y : ℤ). y ≤ℤ x) (sym same) h)

  upper : (v z : ℤ) → least ≤ℤ v → IsQuotientOr least greatest (Some v) greatest z
      → (x ≤ℤ z) ↔ (x ≤ℤ v)
  upper v z large is = by (int_lt greatest v) refl
    where
      by : (b : Bool) → int_lt greatest v ≡ b → (x ≤ℤ z) ↔ (x ≤ℤ v)
      by true e =
          let same : z ≡ greatest = is.1 (λ h. omega (arith, ints, h.1, e)) in (
            λ h. omega (arith, ints, e, in_type.1),
            λ h. subst (λ (y : ℤ). x ≤ℤ y) (sym same) in_type.1,
          )
      by false e =
          let held : Some z ≡ Some v = is.0 (large, omega (arith, ints, e)) in
          let same : z ≡ v = cc in
          (λ h. subst (λ (y : ℤ). x ≤ℤ y) same h, λ h. subst (λ (y : ℤ). x ≤ℤ y) (sym same) h)

-- both ends
both_ends : {A B C D E : Type 0} → A ↔ B → C ↔ D → (B × D) ↔ E → (A × C) ↔ E
both_ends a c e =
    (λ p. e.0 (a.0 p.0, c.0 p.1), λ p. let q = e.1 p in (a.1 q.0, c.1 q.1))

above_in : (low high d : ℕ) (x z y : ℤ) → IsWithin (neg_ℤ (pos low)) (pos high) x
    → IsQuotientOr (neg_ℤ (pos low)) (pos high) (Some (neg_ℤ (pos (low / suc d))))
    (neg_ℤ (pos low)) z
    → IsQuotientOr (neg_ℤ (pos low)) (pos high) (Some (pos (high / suc d))) (pos high) y
    → IsWithin z y x ↔ IsWithin (neg_ℤ (pos low)) (pos high) (x *ℤ pos (suc d))
above_in low high d x z y h is_low is_high =
    both_ends
    (lower (neg_ℤ (pos low)) (pos high) x h (neg_ℤ (pos (low / suc d))) z
    (omega (arith, ints)) is_low)
    (upper (neg_ℤ (pos low)) (pos high) x h (pos (high / suc d)) y (neg_below low (high / suc d))
    is_high)
    (ends_above low high (suc d) (omega arith) x)

below_in : (low high d : ℕ) (x z y : ℤ) → IsWithin (neg_ℤ (pos low)) (pos high) x
    → IsQuotientOr (neg_ℤ (pos low)) (pos high) (Some (neg_ℤ (pos (high / suc d))))
    (neg_ℤ (pos low)) z
    → IsQuotientOr (neg_ℤ (pos low)) (pos high) (Some (pos (low / suc d))) (pos high) y
    → IsWithin z y x ↔ IsWithin (neg_ℤ (pos low)) (pos high) (x *ℤ negsuc d)
below_in low high d x z y h is_low is_high =
    both_ends
    (lower (neg_ℤ (pos low)) (pos high) x h (neg_ℤ (pos (high / suc d))) z
    (omega (arith, ints)) is_low)
    (upper (neg_ℤ (pos low)) (pos high) x h (pos (low / suc d)) y (neg_below low (low / suc d))
    is_high)
    (ends_below low high d x)

-- the ends of a factor that is not below zero
pub ends_from_zero : (least greatest f z y : ℤ) → IsWithin least greatest (pos 0)
    → int_lt f (pos 0) ≡ false → IsQuotientOr least greatest (quotient least f) least z
    → IsQuotientOr least greatest (quotient greatest f) greatest y
    → AreEnds least greatest f z y
ends_from_zero least (negsuc n) f z y zero_in not_less is_low is_high x h =
    absurd (omega (arith, ints, zero_in.1))
ends_from_zero (pos (suc n)) (pos high) f z y zero_in not_less is_low is_high x h =
    absurd (omega (arith, ints, zero_in.0))
ends_from_zero least (pos high) (negsuc d) z y zero_in not_less is_low is_high x h =
    absurd (omega (arith, ints, not_less))
ends_from_zero least (pos high) (pos zero) z y zero_in not_less is_low is_high x h =
    let none : x *ℤ pos 0 ≡ pos 0 = omega (arith, ints) in
    let a : z ≡ least = is_low.1 (λ p. p) in
    let b : y ≡ pos high = is_high.1 (λ p. p) in (
      λ p. subst (IsWithin least (pos high)) (sym none) zero_in,
      λ p. (
        subst (λ (k : ℤ). k ≤ℤ x) (sym a) h.0,
        subst (λ (k : ℤ). x ≤ℤ k) (sym b) h.1,
      ),
    )
ends_from_zero (pos zero) (pos high) (pos (suc d)) z y zero_in not_less is_low is_high x h =
    let none : 0 / suc d ≡ 0 = omega arith in
    above_in 0 high d x z y h
    (subst
    (λ (k : ℕ). IsQuotientOr (pos 0) (pos high) (Some (neg_ℤ (pos k))) (pos 0) z) (sym none)
    (subst (λ (k : ℕ). IsQuotientOr (pos 0) (pos high) (Some (pos k)) (pos 0) z) none is_low))
    is_high
ends_from_zero (negsuc l) (pos high) (pos (suc d)) z y zero_in not_less is_low is_high x h =
    above_in (suc l) high d x z y h is_low is_high

-- the ends of a factor below zero
pub ends_below_zero : (least greatest f z y : ℤ) → IsWithin least greatest (pos 0)
    → int_lt f (pos 0) ≡ true → IsQuotientOr least greatest (quotient greatest f) least z
    → IsQuotientOr least greatest (quotient least f) greatest y
    → AreEnds least greatest f z y
ends_below_zero least (negsuc n) f z y zero_in less is_low is_high x h =
    absurd (omega (arith, ints, zero_in.1))
ends_below_zero (pos (suc n)) (pos high) f z y zero_in less is_low is_high x h =
    absurd (omega (arith, ints, zero_in.0))
ends_below_zero least (pos high) (pos d) z y zero_in less is_low is_high x h =
    absurd (omega (arith, ints, less))
ends_below_zero (pos zero) (pos high) (negsuc d) z y zero_in less is_low is_high x h =
    let none : 0 / suc d ≡ 0 = omega arith in
    below_in 0 high d x z y h is_low
    (subst
    (λ (k : ℕ). IsQuotientOr (pos 0) (pos high) (Some (pos k)) (pos high) y) (sym none)
    (subst (λ (k : ℕ). IsQuotientOr (pos 0) (pos high) (Some (neg_ℤ (pos k))) (pos high) y) none
    is_high))
ends_below_zero (negsuc l) (pos high) (negsuc d) z y zero_in less is_low is_high x h =
    below_in (suc l) high d x z y h is_low is_high

-- the test of both ends
pub outside_tells : (low high x : ℤ) (p q : Bool) {P : Type 0} → IsWithin low high x ↔ P
    → p ≡ int_lt x low → q ≡ int_lt high x → FalseIff (p || q) P
outside_tells low high x true q is e f =
    λ h. let inside = is.1 h in omega (arith, ints, inside.0, sym e)
outside_tells low high x false true is e f =
    λ h. let inside = is.1 h in omega (arith, ints, inside.1, sym f)
outside_tells low high x false false is e f =
    is.0 (omega (arith, ints, sym e), omega (arith, ints, sym f))
