-- A function of numbers that falls at no step falls nowhere.
use Rattle.std.specs.Prelude.{◌≡◌, ℕ, zero, suc, ℤ, pos, ◌+◌, ◌-◌, ◌+ℤ◌, ◌≤ℤ◌, refl}
use Rattle.std.proofs.Common.{arith, subst}
use Rattle.jiff_core.proofs.SignedLemmas.{signed_arith}
use borrow.Author.Differences.{up, down}

-- what it returns never falls as the number grows
abbrev pub NeverFalls : (ℤ → ℤ) → Type 0
NeverFalls f = (a b : ℤ) → a ≤ℤ b → f a ≤ℤ f b

module _ (f : ℤ → ℤ) (step : (z : ℤ) → f z ≤ℤ f (z +ℤ pos 1)) where
  after : (n : ℕ) (a b : ℤ) → b ≡ a +ℤ pos n → f a ≤ℤ f b
  after zero a b e =
      let same : a ≡ b = omega (arith, signed_arith, e) in
      subst (λ c. f a ≤ℤ f c) same (omega (arith, signed_arith))
  after (suc n) a b e =
      let last = a +ℤ pos n in
      let next : last +ℤ pos 1 ≡ b = omega (arith, signed_arith, e) in
      let up_to = after n a last refl in
      let one : f last ≤ℤ f b = subst (λ c. f last ≤ℤ f c) next (step last) in
      omega (arith, signed_arith, up_to, one)

  pub by_steps : NeverFalls f
  by_steps a b h = after (up b + down a - (down b + up a)) a b (omega (arith, signed_arith, h))
