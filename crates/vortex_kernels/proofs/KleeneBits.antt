-- Kleene's tables in words: the formulas for two truth values, or null.
use Rattle.std.proofs.Common.{◌≡◌, ◌∙◌, ℕ, Bool, true, false, Option, Some, None, refl, ap}
use Rattle.std.proofs.Common.{sym, bit_and, bit_or}
use Rattle.std.specs.Prelude.{◌&&◌, ◌||◌, is_some}
use Rattle.vortex_bits.specs.Bits.{bit}
use Rattle.vortex_bits.proofs.WordLogic.{and_bit, or_bit}
use Rattle.vortex_operators.specs.declared.operators.Operator.{Operator}
use Rattle.vortex_operators.specs.declared.operators.Operator.TheVariants.{And, Or}
use Rattle.vortex_operators.specs.Operators.{is_boolean}
use Rattle.vortex_kernels.specs.Kleene.{and_says, or_says}
use Rattle.vortex_operators.specs.Kleene.{kleene, decides}
use Rattle.vortex_kernels.specs.Truths.{present, IsValueOf}

-- a truth value is present where it is one
pub present_is : (o : Option Bool) (v b : Bool) → v ≡ is_some o → IsValueOf b o → present v b ≡ o
present_is None v b e h = ap (λ p. present p b) e
present_is (Some x) v b e h = ap (λ p. present p b) e ∙ ap Some h

-- the result is present where both sides are, or one side decides
valid_by : (op : Operator) (a p b q : Bool) → is_boolean op ≡ true
    → ((p && q) || ((p && decides op a) || (q && decides op b)))
    ≡ is_some (kleene op (present p a) (present q b))
valid_by And true true true true h = refl
valid_by And true true true false h = refl
valid_by And true true false true h = refl
valid_by And true true false false h = refl
valid_by And false true b true h = refl
valid_by And false true b false h = refl
valid_by And a false true true h = refl
valid_by And a false true false h = refl
valid_by And a false false true h = refl
valid_by And a false false false h = refl
valid_by Or false true false true h = refl
valid_by Or false true false false h = refl
valid_by Or false true true true h = refl
valid_by Or false true true false h = refl
valid_by Or true true b true h = refl
valid_by Or true true b false h = refl
valid_by Or a false true true h = refl
valid_by Or a false true false h = refl
valid_by Or a false false true h = refl
valid_by Or a false false false h = refl
valid_by op a p b q h = cc

-- the same in words, where the first two are what decides
pub valid_word : (op : Operator) (d e l p r q j : ℕ) → is_boolean op ≡ true
    → bit d j ≡ decides op (bit l j) → bit e j ≡ decides op (bit r j)
    → bit (bit_or (bit_and p q) (bit_or (bit_and p d) (bit_and q e))) j
    ≡ is_some (kleene op (present (bit p j) (bit l j)) (present (bit q j) (bit r j)))
valid_word op d e l p r q j h left right =
    or_bit (bit_and p q) (bit_or (bit_and p d) (bit_and q e)) j
    ∙ (λ k. and_bit p q j k || or_bit (bit_and p d) (bit_and q e) j k)
    ∙ (λ k. (bit p j && bit q j) || (and_bit p d j k || and_bit q e j k))
    ∙ (λ k. (bit p j && bit q j) || ((bit p j && left k) || (bit q j && right k)))
    ∙ valid_by op (bit l j) (bit p j) (bit r j) (bit q j) h

module _ (l p r q v : ℕ) (j : ℕ) where
  pub and_word : bit v j ≡ is_some (kleene And (present (bit p j) (bit l j))
      (present (bit q j) (bit r j)))
      → present (bit v j) (bit (bit_and l r) j)
      ≡ kleene And (present (bit p j) (bit l j)) (present (bit q j) (bit r j))
  and_word e =
      ap (present (bit v j)) (and_bit l r j)
      ∙ present_is (kleene And (present (bit p j) (bit l j)) (present (bit q j) (bit r j)))
      (bit v j) (bit l j && bit r j) e (and_says (bit p j) (bit q j) (bit l j) (bit r j))

  pub or_word : bit v j ≡ is_some (kleene Or (present (bit p j) (bit l j))
      (present (bit q j) (bit r j)))
      → present (bit v j) (bit (bit_or l r) j)
      ≡ kleene Or (present (bit p j) (bit l j)) (present (bit q j) (bit r j))
  or_word e =
      ap (present (bit v j)) (or_bit l r j)
      ∙ present_is (kleene Or (present (bit p j) (bit l j)) (present (bit q j) (bit r j)))
      (bit v j) (bit l j || bit r j) e (or_says (bit p j) (bit q j) (bit l j) (bit r j))

pub other_is_or : (op : Operator) → is_boolean op ≡ true → (op ≡ And → ⊥) → op ≡ Or
other_is_or And h n = absurd (n refl)
other_is_or Or h n = refl
other_is_or op h n = cc

-- the result for two truth values is present
pub both_some : (op : Operator) (a b : Option Bool) → is_boolean op ≡ true → is_some a ≡ true
    → is_some b ≡ true → is_some (kleene op a b) ≡ true
both_some op (Some a) (Some b) h p q = sym (valid_by op a true b true h)
both_some op None b h p q = cc
both_some op a None h p q = cc
