-- Truth values and numbers are fault flags.
use Rattle.std.specs.Prelude.{◌≡◌, ℕ, zero, suc, Bool, true, false, not, ◌||◌, nat_eq, refl}
use Rattle.std.specs.Bool.{⊤}
use Rattle.std.proofs.Common.{sym, ap, ◌∙◌, arith}
use Rattle.std.specs.Int.Bits.{bit_or, or_zero_l}
use Rattle.std.specs.Int.{bit_at}
use Rattle.std.proofs.lemmas.Nat.Bits.{bit_at-zero, bit_at_or, same_from_bits}
use Rattle.std.proofs.Math.Dec.{eqb-suc-zero}
use mathlib.Core.Bool.{beq}
use Rattle.vortex_checked.specs.Evidence.{IsEvidence, is_nonzero}

pub bool_evidence : IsEvidence (λ b. b ≡ false) beq (λ x y. ⊤) (λ x y z. z ≡ (x || y)) (λ b. b)
bool_evidence = record {
  none = λ x e. e;
  told = λ x y e. ap (beq x) e ∙ is_false x;
  free = λ x y. tt;
  joins = λ x y z e. e;
}
  where
    is_false : (x : Bool) → beq x false ≡ not x
    is_false true = refl
    is_false false = refl

-- no bits are set in two numbers where none are set in their union
left_zero : (a b : ℕ) → bit_or a b ≡ 0 → a ≡ 0
left_zero a b e =
    same_from_bits a 0
    (λ i.
    omega
    (arith, sym (bit_at_or a b i) ∙ ap (λ n. bit_at n i) e ∙ bit_at-zero i, bit_at-zero i))

joined_nonzero : (a b : ℕ) → is_nonzero (bit_or a b) ≡ (is_nonzero a || is_nonzero b)
joined_nonzero zero b = ap is_nonzero (or_zero_l b)
joined_nonzero (suc a) b = by (bit_or (suc a) b) refl
  where
    by : (n : ℕ) → bit_or (suc a) b ≡ n → is_nonzero (bit_or (suc a) b) ≡ true
    by zero e = absurd (omega (arith, left_zero (suc a) b e))
    by (suc n) e = ap is_nonzero e

pub number_evidence : IsEvidence (λ n. n ≡ 0) nat_eq (λ x y. ⊤) (λ x y z. z ≡ bit_or x y) is_nonzero
number_evidence = record {
  none = λ x e. ap is_nonzero e;
  told = λ x y e. ap (nat_eq x) e ∙ is_zero x;
  free = λ x y. tt;
  joins = λ x y z e. ap is_nonzero e ∙ joined_nonzero x y;
}
  where
    is_zero : (x : ℕ) → nat_eq x 0 ≡ not (is_nonzero x)
    is_zero zero = refl
    is_zero (suc x) = eqb-suc-zero x
