-- A walk whose next child is done at once, without a frame of its own.
use Rattle.std.proofs.Common.{◌≡◌, ℕ, ◌<◌, ◌≤◌, List, [], ◌∷◌, ◌++◌, length, take, Some, refl, sym, arith}
use Rattle.std.specs.Prelude.{get_or, slice_get}
use Rattle.vortex_functions.specs.declared.walk.WalkFrame.{WalkFrame}
use Rattle.vortex_functions.specs.Walks.{AllMean}
use Rattle.vortex_functions.proofs.Chains.{Walking, chain_refuses, descended, risen}

module _ {A P : Type 0} (children : A → List A) (serves : A → Type 0) (means : A → P → Type 0)
    (root child : A) (fs : List (WalkFrame A P)) (f : WalkFrame A P) (k : ℕ)
    (h : Walking children serves means root fs f.node.now f.outputs.items)
    (same : length f.outputs.items ≡ k) (at : slice_get (children f.node.now) k ≡ Some child)
    (s : serves child) where
  below : Walking children serves means root (fs ++ f ∷ []) child []
  below = descended children serves means root child fs f k h same at s

  pub leaf_done : (os : List P) (o : P) → means child o → os ≡ f.outputs.items ++ o ∷ []
      → Walking children serves means root fs f.node.now os
  leaf_done os o m e =
      risen children serves means root child (fs ++ f ∷ []) fs f os o below.0 refl m e

  pub leaf_refused : {E : Type 0} (refuses : A → E → Type 0)
      → ((t child : A) (os : List P) (e : E)
      → AllMean means (take (length os) (children t)) os
      → slice_get (children t) (length os) ≡ Some child → refuses child e → refuses t e)
      → (e : E) → refuses child e → refuses root e
  leaf_refused refuses up e r =
      chain_refuses children serves means refuses up root child (fs ++ f ∷ []) e below.0 r

pub no_children : {A P : Type 0} (means : A → P → Type 0) (ts : List A) → length ts ≡ 0
    → AllMean means ts []
no_children means [] e = tt
no_children means (t ∷ ts) e = absurd (omega (arith, e))

-- a list of two items
pub two_children : {A : Type 0} (ts : List A) (l r : A) → 2 ≤ length ts → length ts < 3
    → l ≡ get_or ts 0 l → r ≡ get_or ts 1 r → ts ≡ l ∷ r ∷ []
two_children [] l r two few e f = absurd (omega (arith, two))
two_children (a ∷ []) l r two few e f = absurd (omega (arith, two))
two_children (a ∷ b ∷ []) l r two few e f = λ i. sym e i ∷ sym f i ∷ []
two_children (a ∷ b ∷ c ∷ ts) l r two few e f = absurd (omega (arith, few))
