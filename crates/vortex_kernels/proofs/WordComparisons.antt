-- Comparisons of truth values, 64 at a time: false comes before true.
use Rattle.std.proofs.Common.{◌≡◌, ℕ, ◌^◌, ◌<◌, Bool, true, false, cond, refl, ap, ◌∙◌, bit_and}
use Rattle.std.proofs.Common.{bit_or}
use Rattle.std.proofs.Common.{bit_xor, w64}
use Rattle.std.specs.Prelude.{◌&&◌, ◌||◌, not}
use Rattle.std.specs.Int.{bit_not}
use Rattle.std.specs.Ordering.{bool_cmp}
use Rattle.std.proofs.lemmas.Nat.{xor_lt}
use Rattle.vortex_bits.specs.Bits.{bit}
use Rattle.vortex_bits.proofs.WordLogic.{and_bit, or_bit, not_bit, xor_bit}
use Rattle.vortex_operators.specs.OperatorValues.{holds}
use Rattle.vortex_operators.specs.declared.operators.CompareOperator.TheVariants.{Eq, NotEq, Gt}
use Rattle.vortex_operators.specs.declared.operators.CompareOperator.TheVariants.{Gte, Lt, Lte}

eq_bool : (x y : Bool) → not (cond x (not y) y) ≡ holds Eq (bool_cmp x y)
eq_bool true true = refl
eq_bool true false = refl
eq_bool false true = refl
eq_bool false false = refl

not_eq_bool : (x y : Bool) → cond x (not y) y ≡ holds NotEq (bool_cmp x y)
not_eq_bool true true = refl
not_eq_bool true false = refl
not_eq_bool false true = refl
not_eq_bool false false = refl

gt_bool : (x y : Bool) → (x && not y) ≡ holds Gt (bool_cmp x y)
gt_bool true true = refl
gt_bool true false = refl
gt_bool false true = refl
gt_bool false false = refl

gte_bool : (x y : Bool) → (x || not y) ≡ holds Gte (bool_cmp x y)
gte_bool true true = refl
gte_bool true false = refl
gte_bool false true = refl
gte_bool false false = refl

lt_bool : (x y : Bool) → (not x && y) ≡ holds Lt (bool_cmp x y)
lt_bool true true = refl
lt_bool true false = refl
lt_bool false true = refl
lt_bool false false = refl

lte_bool : (x y : Bool) → (not x || y) ≡ holds Lte (bool_cmp x y)
lte_bool true true = refl
lte_bool true false = refl
lte_bool false true = refl
lte_bool false false = refl

module _ (l r : ℕ) (small : l < 2 ^ 64) (fits : r < 2 ^ 64) (j : ℕ) (lt : j < 64) where
  pub eq_word : bit (bit_not w64 (bit_xor l r)) j ≡ holds Eq (bool_cmp (bit l j) (bit r j))
  eq_word =
      not_bit (bit_xor l r) j (xor_lt 64 l r small fits) lt
      ∙ ap not (xor_bit l r j)
      ∙ eq_bool (bit l j) (bit r j)

  pub not_eq_word : bit (bit_xor l r) j ≡ holds NotEq (bool_cmp (bit l j) (bit r j))
  not_eq_word = xor_bit l r j ∙ not_eq_bool (bit l j) (bit r j)

  pub gt_word : bit (bit_and l (bit_not w64 r)) j ≡ holds Gt (bool_cmp (bit l j) (bit r j))
  gt_word =
      and_bit l (bit_not w64 r) j
      ∙ ap (λ b. bit l j && b) (not_bit r j fits lt)
      ∙ gt_bool (bit l j) (bit r j)

  pub gte_word : bit (bit_or l (bit_not w64 r)) j ≡ holds Gte (bool_cmp (bit l j) (bit r j))
  gte_word =
      or_bit l (bit_not w64 r) j
      ∙ ap (λ b. bit l j || b) (not_bit r j fits lt)
      ∙ gte_bool (bit l j) (bit r j)

  pub lt_word : bit (bit_and (bit_not w64 l) r) j ≡ holds Lt (bool_cmp (bit l j) (bit r j))
  lt_word =
      and_bit (bit_not w64 l) r j
      ∙ ap (λ b. b && bit r j) (not_bit l j small lt)
      ∙ lt_bool (bit l j) (bit r j)

  pub lte_word : bit (bit_or (bit_not w64 l) r) j ≡ holds Lte (bool_cmp (bit l j) (bit r j))
  lte_word =
      or_bit (bit_not w64 l) r j
      ∙ ap (λ b. b || bit r j) (not_bit l j small lt)
      ∙ lte_bool (bit l j) (bit r j)
