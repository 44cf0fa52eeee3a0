-- Sums of weights saturated to 64 bits, and the weight of a call.
use Rattle.std.proofs.Common.{◌≡◌, ℕ, zero, suc, ◌+◌, ◌<◌, sym, ap, ◌∙◌, List, [], ◌∷◌, length}
use Rattle.std.proofs.Common.{take, get_or, Bool, Some, arith}
use Rattle.std.specs.Prelude.{min}
use Rattle.vortex_types.specs.LogicalTypes.{LogicalType, is_nullable}
use Rattle.vortex_interface.specs.Meaning.{Meaning}
use Rattle.vortex_interface.specs.Functions.{Function}
use Rattle.vortex_interface.specs.Trees.{Tree, call, trees_of}
use Rattle.vortex_interface.specs.Eval.{tree_type}
use Rattle.vortex_interface.specs.Rules.{may_be_null}
use Rattle.vortex_interface.specs.Weights.{added, weight, weights, weight_told}

-- a sum, saturated to 64 bits
abbrev pub told : ℕ → ℕ
told n = min n 18446744073709551615

-- saturating a part is saturating the sum
pub told_plus : (a b : ℕ) → told (told a + told b) ≡ told (a + b)
told_plus a b = omega arith

module _ {V O : Type 0} (m : Meaning V O) where
  -- the weights of one more tree
  pub weights_more : (ts : List (Tree V O)) (i : ℕ) (t : Tree V O) → i < length ts
      → t ≡ get_or ts i t
      → weights m (trees_of (take (suc i) ts)) ≡ weights m (trees_of (take i ts)) + weight m t
  weights_more [] i t lt e = absurd (omega (arith, lt))
  weights_more (x ∷ xs) zero t lt e = omega (arith, ap (weight m) e)
  weights_more (x ∷ xs) (suc i) t lt e =
      omega (arith, weights_more xs i t (omega (arith, lt)) e)

  -- a saturated sum, and one more tree
  pub sum_more : (a : ℕ) (ts : List (Tree V O)) (i : ℕ) (t : Tree V O) (sum one : ℕ)
      → sum ≡ told (a + weights m (trees_of (take i ts))) → i < length ts → t ≡ get_or ts i t
      → one ≡ weight_told m t
      → told (sum + one) ≡ told (a + weights m (trees_of (take (suc i) ts)))
  sum_more a ts i t sum one so_far lt e weighs =
      let w = weights m (trees_of (take i ts)) in
      (λ j. told (so_far j + weighs j))
      ∙ told_plus (a + w) (weight m t)
      ∙ ap told (omega (arith, weights_more ts i t lt e))

  -- the weight that the function adds and its children's weights are the call's
  pub call_is_weighed : (f : Function V O) (ts : List (Tree V O)) (k : LogicalType)
      (nullable : Bool)
      (sum : ℕ)
      → tree_type m (call f (trees_of ts)) ≡ Some k → nullable ≡ is_nullable k
      → sum ≡ told (added f nullable + weights m (trees_of ts))
      → sum ≡ weight_told m (call f (trees_of ts))
  call_is_weighed f ts k nullable sum typed same is =
      is
      ∙ ap (λ n. told (added f n + weights m (trees_of ts)))
      (same ∙ sym (ap may_be_null typed))
