use Rattle.std.proofs.Common.{◌≡◌, ◌<◌, ◌≤◌, List, [], ◌∷◌, length, map, refl, sym, subst, arith}
use Rattle.vortex_standard.specs.declared.standard.Standard.TheVariants as standard
use Rattle.vortex_expressions.specs.Answering.{Gives}
use Rattle.vortex_expressions.specs.Functions.{function_item, located}
use Rattle.vortex_expressions.specs.Items.{Item, item_in}
use Rattle.vortex_expressions.proofs.located.located.Goals as goal

module _ {A : Type 0} (f : A → Item) where
  abbrev IsFound : List A → Type 0
  IsFound xs = function_item standard.StrPos (map f xs) ≡ located (map f xs)

  one : (xs : List A) → 1 ≤ length xs → length xs < 2 → IsFound xs
  one [] least below = absurd (omega (arith, least))
  one (x ∷ []) least below = refl
  one (x ∷ y ∷ xs) least below = absurd (omega (arith, below))

  more : (xs : List A) → 3 ≤ length xs → IsFound xs
  more [] least = absurd (omega (arith, least))
  more (x ∷ []) least = absurd (omega (arith, least))
  more (x ∷ y ∷ []) least = absurd (omega (arith, least))
  more (x ∷ y ∷ z ∷ xs) least = refl

pub returns-in-len1 : goal.returns-in-len1
returns-in-len1 c =
    let found = subst (IsFound item_in) c.as_slice.ensures.value
    (one item_in c.as_slice.result.now c.in-len1.len_at_least c.in-len1.len_below) in
    subst (λ o. Gives item_in c.function_item-in-len1.result o) found
    c.function_item-in-len1.ensures

pub returns-in-len3-up : goal.returns-in-len3-up
returns-in-len3-up c =
    let found = subst (IsFound item_in) c.as_slice.ensures.value
    (more item_in c.as_slice.result.now c.in-len3-up.len_at_least) in
    subst (λ o. Gives item_in c.function_item-in-len3-up.result o) found
    c.function_item-in-len3-up.ensures
