-- A child of a node, as code reaches it: the children up to the next, and a rewrite at a place
-- below.
use Rattle.std.proofs.Common.{◌≡◌, ℕ, zero, suc, List, [], ◌∷◌, ◌++◌, take, Option, Some, ap, ◌∙◌}
use Rattle.std.specs.Prelude.{slice_get}
use Rattle.std.specs.Option.{option_map, option_and_then}
use Rattle.vortex_interface.specs.Trees.{Tree, children_of}
use Rattle.vortex_interface.specs.Places.{with_child, rewritten}

-- the elements up to the next
pub take_next : {A : Type 0} (xs : List A) (k : ℕ) (x : A) → slice_get xs k ≡ Some x
    → take (suc k) xs ≡ take k xs ++ x ∷ []
take_next [] k x h = cc
take_next (y ∷ ys) zero x h = let is : y ≡ x = cc in ap (λ z. z ∷ []) is
take_next (y ∷ ys) (suc k) x h = ap (λ zs. y ∷ zs) (take_next ys k x h)

module _ {V O : Type 0} (rule : Tree V O → Option (Tree V O)) where
  -- a rewrite at a place below a child
  pub child_at : (k : ℕ) (path : List ℕ) (t x : Tree V O) (made : Option (Option (Tree V O)))
      → slice_get (children_of t) k ≡ Some x → rewritten rule path x ≡ made
      → rewritten rule (k ∷ path) t ≡ option_map (option_map (with_child t k)) made
  child_at k path t x made h e =
      let put = option_map (option_map (with_child t k)) in
      ap (option_and_then (λ z. put (rewritten rule path z))) h ∙ ap put e
