-- How code goes down a tree, and up again.
use Rattle.std.proofs.Common.{◌≡◌, ℕ, List, [], ◌∷◌, ◌++◌, map}
use Rattle.std.proofs.Common.{Option, Some, None, refl, sym, ap, ◌∙◌, subst}
use Rattle.std.proofs.lemmas.List.{map-append}
use Rattle.std.specs.Prelude.{slice_get}
use Rattle.std.specs.Option.{option_map, option_and_then}
use Rattle.vortex_interface.specs.Meaning.{Meaning}
use Rattle.vortex_interface.specs.Functions.{call_type}
use Rattle.vortex_interface.specs.Trees.{Tree, leaf, constant, call, children_of, list_of}
use Rattle.vortex_interface.specs.Eval.{tree_type, tree_types}
use Rattle.vortex_interface.specs.Places.{with_child, rewritten}
use Rattle.vortex_interface.proofs.DriverSteps.{child_at}
use Rattle.vortex_interface.proofs.StepPlaces.{same_trees}
use Rattle.vortex_interface.proofs.TypedCalls.{types_with}
use Rattle.vortex_rewriting.specs.Parents.{IsPath, with_parents, LeadsOn}

pub popped : {A B : Type 0} (f : A → B) (items rest : List A) (p : A) → items ≡ rest ++ p ∷ []
    → map f items ≡ map f rest ++ f p ∷ []
popped f items rest p e = ap (map f) e ∙ map-append f rest (p ∷ [])

module _ {V O : Type 0} where
  pub way_push : (ps : List (Tree V O × ℕ)) (t x y : Tree V O) (k : ℕ) → IsPath ps t x
      → slice_get (children_of x) k ≡ Some y → IsPath (ps ++ (x, k) ∷ []) t y
  way_push [] t x y k h g = (h, y, g, refl)
  way_push (p ∷ ps) t x y k h g = (h.0, h.1, h.2, way_push ps h.1 x y k h.3 g)

  pub way_pop : (ps : List (Tree V O × ℕ)) (p : Tree V O × ℕ) (t x : Tree V O)
      → IsPath (ps ++ p ∷ []) t x
      → IsPath ps t p.0 × (slice_get (children_of p.0) p.1 ≡ Some x)
  way_pop [] p t x h = (h.0, h.2 ∙ ap Some h.3)
  way_pop (q ∷ ps) p t x h =
      let r = way_pop ps p h.1 x h.3 in ((h.0, h.1, h.2, r.0), r.1)

  pub way_above : {A : Type 0} (f : A → Tree V O × ℕ) (items rest : List A) (p : A)
      (t x : Tree V O) → items ≡ rest ++ p ∷ [] → IsPath (map f items) t x
      → IsPath (map f rest) t (f p).0 × (slice_get (children_of (f p).0) (f p).1 ≡ Some x)
  way_above f items rest p t x e h =
      way_pop (map f rest) (f p) t x (subst (λ z. IsPath z t x) (popped f items rest p e) h)

  pub with_last : (ps : List (Tree V O × ℕ)) (p : Tree V O × ℕ) (u : Tree V O)
      → with_parents (ps ++ p ∷ []) u ≡ with_parents ps (with_child p.0 p.1 u)
  with_last [] p u = refl
  with_last (q ∷ ps) p u = ap (with_child q.0 q.1) (with_last ps p u)

  -- replacing a child by one of its type keeps the type
  pub with_child_typed : (m : Meaning V O) (t x u : Tree V O) (k : ℕ)
      → slice_get (children_of t) k ≡ Some x → tree_type m u ≡ tree_type m x
      → tree_type m (with_child t k u) ≡ tree_type m t
  with_child_typed m (leaf l) x u k h e = refl
  with_child_typed m (constant s) x u k h e = refl
  with_child_typed m (call f ts) x u k h e =
      ap (option_and_then (call_type m f))
      (types_with m (list_of ts) k x u h e ∙ ap (tree_types m) (same_trees ts))

  further : (ps : List (Tree V O × ℕ)) (p : Tree V O × ℕ) (o : Option (Option (Tree V O)))
      → option_map (option_map (with_parents ps)) (option_map (option_map (with_child p.0 p.1)) o)
      ≡ option_map (option_map (with_parents (ps ++ p ∷ []))) o
  further ps p None = refl
  further ps p (Some None) = refl
  further ps p (Some (Some u)) = ap (λ v. Some (Some v)) (sym (with_last ps p u))

  module _ (path : List ℕ) (t : Tree V O) (ps : List (Tree V O × ℕ)) (before rest : List ℕ)
      (k : ℕ) (x : Tree V O) (on : LeadsOn path t ps before x) (next : before ≡ k ∷ rest) where
    pub way_goes_on : (y : Tree V O) → slice_get (children_of x) k ≡ Some y
        → LeadsOn path t (ps ++ (x, k) ∷ []) rest y
    way_goes_on y h =
        λ rule.
        on rule
        ∙ ap (λ z. option_map (option_map (with_parents ps)) (rewritten rule z x)) next
        ∙ ap (option_map (option_map (with_parents ps)))
        (child_at rule k rest x y (rewritten rule rest y) h refl)
        ∙ further ps (x, k) (rewritten rule rest y)
