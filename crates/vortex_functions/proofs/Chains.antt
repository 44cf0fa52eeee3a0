-- The frames above a node, and how much of a walk is left, for nodes of any type with children.
use Rattle.std.proofs.Common.{◌≡◌, ℕ, zero, suc, ◌+◌, ◌*◌, List, [], ◌∷◌, ◌++◌, length, take, drop}
use Rattle.std.proofs.Common.{Some, refl, sym, ap, subst, ◌∙◌, arith, add-one, length-append, ◌<◌}
use Rattle.std.specs.Prelude.{slice_get}
use Rattle.vortex_functions.specs.declared.walk.WalkFrame.{WalkFrame}
use Rattle.vortex_functions.specs.Walks.{AllMean}

-- how many nodes a list of trees has
abbrev pub nodes : {A : Type 0} → (A → ℕ) → List A → ℕ
nodes count [] = 0
nodes count (t ∷ ts) = count t + nodes count ts

module _ {A P : Type 0} (children : A → List A) (serves : A → Type 0) (means : A → P → Type 0) where
  -- the node is the next child of the last frame, and so is each frame of the one above, from the
  -- root
  abbrev pub Chain : A → List (WalkFrame A P) → A → Type 0
  Chain root [] t = root ≡ t
  Chain root (f ∷ fs) t =
      (root ≡ f.node.now) ×
      serves f.node.now ×
      AllMean means (take (length f.outputs.items) (children f.node.now)) f.outputs.items ×
      (child : A) ×
      (slice_get (children f.node.now) (length f.outputs.items) ≡ Some child) ×
      Chain child fs t

  -- a walk below the frames at a node, with the results for the node's first children
  abbrev pub Walking : A → List (WalkFrame A P) → A → List P → Type 0
  Walking root fs t os =
      Chain root fs t × serves t × AllMean means (take (length os) (children t)) os

module _ {A : Type 0} (children : A → List A) (count : A → ℕ) where
  -- the steps left at a node, from its k-th child on, and in the frames
  abbrev pub steps_from : A → ℕ → ℕ
  steps_from t k = 2 * nodes count (drop k (children t)) + 1

  abbrev pub steps_above : {P : Type 0} → List (WalkFrame A P) → ℕ
  steps_above [] = 0
  steps_above (f ∷ fs) = steps_from f.node.now (suc (length f.outputs.items)) + steps_above fs

  -- from a child on there is that child, then what is left from the next on
  nodes_from : (ts : List A) (k : ℕ) (t : A) → slice_get ts k ≡ Some t
      → nodes count (drop k ts) ≡ count t + nodes count (drop (suc k) ts)
  nodes_from [] k t e = cc
  nodes_from (x ∷ xs) zero t e =
      let p : x ≡ t = cc in
      let q : count x ≡ count t = ap count p in
      omega arith
  nodes_from (x ∷ xs) (suc k) t e = nodes_from xs k t e

  module _ {P : Type 0} where
    steps_above_push : (fs : List (WalkFrame A P)) (f : WalkFrame A P)
        → steps_above (fs ++ f ∷ [])
        ≡ steps_above fs + steps_from f.node.now (suc (length f.outputs.items))
    steps_above_push [] f = omega arith
    steps_above_push (x ∷ xs) f = omega (arith, steps_above_push xs f)

    -- less is left in a child and after it than in the frame, if a node counts itself and its
    -- children
    pub descended_fewer : ((t : A) → count t ≡ suc (nodes count (children t)))
        → (child : A) (fs : List (WalkFrame A P)) (f : WalkFrame A P) (k : ℕ)
        → length f.outputs.items ≡ k → slice_get (children f.node.now) k ≡ Some child
        → steps_above (fs ++ f ∷ []) + steps_from child 0
        < steps_above fs + steps_from f.node.now (length f.outputs.items)
    descended_fewer counted child fs f k same at =
        let got : slice_get (children f.node.now) (length f.outputs.items) ≡ Some child =
        ap (slice_get (children f.node.now)) same ∙ at in
        let before = nodes_from (children f.node.now) (length f.outputs.items) child got in
        omega (arith, before, counted child, steps_above_push fs f)

    -- and less after a child than with it
    pub risen_fewer : (t : A) (k : ℕ) (all rest : List (WalkFrame A P)) (parent : WalkFrame A P)
        (os : List P) (o : P)
        → all ≡ rest ++ parent ∷ [] → os ≡ parent.outputs.items ++ o ∷ []
        → steps_above rest + steps_from parent.node.now (length os)
        < steps_above all + steps_from t k
    risen_fewer t k all rest parent os o e same =
        let more : length os ≡ suc (length parent.outputs.items) =
        ap length same ∙ length-append parent.outputs.items (o ∷ []) ∙ add-one _ in
        let above = ap steps_above e ∙ steps_above_push rest parent in
        let then = ap (steps_from parent.node.now) more in
        omega (arith, above, then)

module _ {A P : Type 0} (children : A → List A) (serves : A → Type 0) (means : A → P → Type 0) where
  chain_push : (root t child : A) (fs : List (WalkFrame A P)) (f : WalkFrame A P)
      → Chain children serves means root fs t → t ≡ f.node.now → serves t
      → AllMean means (take (length f.outputs.items) (children f.node.now)) f.outputs.items
      → slice_get (children f.node.now) (length f.outputs.items) ≡ Some child
      → Chain children serves means root (fs ++ f ∷ []) child
  chain_push root t child [] f h e s m g =
      (h ∙ e, subst (λ (x : A). serves x) e s, m, child, g, refl)
  chain_push root t child (x ∷ xs) f h e s m g =
      (h.0, h.1, h.2, h.3, h.4, chain_push h.3 t child xs f h.5 e s m g)

  chain_pop : (root t : A) (fs : List (WalkFrame A P)) (f : WalkFrame A P)
      → Chain children serves means root (fs ++ f ∷ []) t
      → Chain children serves means root fs f.node.now × serves f.node.now ×
      AllMean means (take (length f.outputs.items) (children f.node.now)) f.outputs.items ×
      (slice_get (children f.node.now) (length f.outputs.items) ≡ Some t)
  chain_pop root t [] f h = (h.0, h.1, h.2, h.4 ∙ ap Some h.5)
  chain_pop root t (x ∷ xs) f h =
      let r = chain_pop h.3 t xs f h.5 in ((h.0, h.1, h.2, h.3, h.4, r.0), r.1, r.2, r.3)

  -- an error of a child is one of its parent, and one of a node is one of the root
  pub chain_refuses : {E : Type 0} (refuses : A → E → Type 0)
      → ((t child : A) (os : List P) (e : E)
      → AllMean means (take (length os) (children t)) os
      → slice_get (children t) (length os) ≡ Some child → refuses child e → refuses t e)
      → (root t : A) (fs : List (WalkFrame A P)) (e : E)
      → Chain children serves means root fs t → refuses t e → refuses root e
  chain_refuses refuses up root t [] e h r = subst (λ (x : A). refuses x e) (sym h) r
  chain_refuses refuses up root t (x ∷ xs) e h r =
      let below = chain_refuses refuses up h.3 t xs e h.5 r in
      subst (λ (y : A). refuses y e) (sym h.0)
      (up x.node.now h.3 x.outputs.items e h.2 h.4 below)

  all_mean_more : (ts : List A) (os : List P) (t : A) (o : P)
      → AllMean means (take (length os) ts) os → slice_get ts (length os) ≡ Some t → means t o
      → AllMean means (take (suc (length os)) ts) (os ++ o ∷ [])
  all_mean_more [] [] t o h e m = cc
  all_mean_more [] (x ∷ os) t o h e m = absurd h
  all_mean_more (x ∷ ts) [] t o h e m =
      let q : t ≡ x = cc in (subst (λ (y : A). means y o) q m, tt)
  all_mean_more (x ∷ ts) (y ∷ os) t o h e m = (h.0, all_mean_more ts os t o h.1 e m)

  -- the walk goes down to the next child of the last frame
  pub descended : (root child : A) (fs : List (WalkFrame A P)) (f : WalkFrame A P) (k : ℕ)
      → Walking children serves means root fs f.node.now f.outputs.items
      → length f.outputs.items ≡ k → slice_get (children f.node.now) k ≡ Some child
      → serves child → Walking children serves means root (fs ++ f ∷ []) child []
  descended root child fs f k h same at s =
      let got : slice_get (children f.node.now) (length f.outputs.items) ≡ Some child =
      ap (slice_get (children f.node.now)) same ∙ at in
      (chain_push root f.node.now child fs f h.0 refl h.1 h.2 got, s, tt)

  -- the walk goes back to the last frame with the node's result
  pub risen : (root t : A) (all rest : List (WalkFrame A P)) (parent : WalkFrame A P)
      (os : List P) (o : P)
      → Chain children serves means root all t → all ≡ rest ++ parent ∷ [] → means t o
      → os ≡ parent.outputs.items ++ o ∷ []
      → Walking children serves means root rest parent.node.now os
  risen root t all rest parent os o h e m same =
      let r =
      chain_pop root t rest parent (subst (λ fs. Chain children serves means root fs t) e h) in
      let ts = children parent.node.now in
      let more = all_mean_more ts parent.outputs.items t o r.2 r.3 m in
      let count : length os ≡ suc (length parent.outputs.items) =
      ap length same ∙ length-append parent.outputs.items (o ∷ []) ∙ add-one _ in (
        r.0,
        r.1,
        subst (λ (xs : List P). AllMean means (take (length os) ts) xs) (sym same)
            (subst (λ (k : ℕ). AllMean means (take k ts) (parent.outputs.items ++ o ∷ []))
            (sym count) more),
      )
