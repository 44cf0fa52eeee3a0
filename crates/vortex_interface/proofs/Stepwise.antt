-- A property kept by each rewrite of a rule is kept by rewrites at places, by lists of them, by
-- steps and by runs.
use Rattle.std.proofs.Common.{◌≡◌, ℕ, zero, suc, ◌+◌, List, [], ◌∷◌, Option, Some, None, refl, sym}
use Rattle.std.proofs.Common.{ap, ◌∙◌, subst, arith}
use Rattle.std.specs.Prelude.{slice_get, slice_set}
use Rattle.std.specs.Option.{option_map}
use Rattle.vortex_interface.specs.Functions.{Function}
use Rattle.vortex_interface.specs.Trees.{Tree, leaf, constant, call, trees_of, list_of, children_of}
use Rattle.vortex_interface.specs.Places.{with_child, rewritten, one_more, then_others}
use Rattle.vortex_interface.specs.Places.{rewritten_list}
use Rattle.vortex_interface.specs.Driver.{step, Runs}
use Rattle.vortex_interface.proofs.RuleAnswers.{mapped}
use Rattle.vortex_interface.proofs.TypedCalls.{and_then_some}
use Rattle.vortex_interface.proofs.StepPlaces.{same_trees, step_place}

module _ {V O : Type 0} where
  -- R relates a tree with P to the result of n rewrites:
  -- same, after: none, and some after others
  -- kept: P holds of the result
  -- child, below: P holds for a child, and one rewrite of a child is one of its call
  module _ (P : Tree V O → Type 0) (R : ℕ → Tree V O → Tree V O → Type 0) where
    pub record GoesOver : Type 0 where
      pub same : (t : Tree V O) → P t → R 0 t t
      pub kept : (n : ℕ) (t u : Tree V O) → P t → R n t u → P u
      pub after : (n k l : ℕ) (t u v : Tree V O) → l ≡ n + k → R n t u → R k u v → R l t v
      pub child : (f : Function V O) (ts : List (Tree V O)) (k : ℕ) (t : Tree V O)
          → P (call f (trees_of ts)) → slice_get ts k ≡ Some t → P t
      pub below : (f : Function V O) (ts : List (Tree V O)) (k : ℕ) (t u : Tree V O)
          → P (call f (trees_of ts)) → slice_get ts k ≡ Some t → R 1 t u
          → R 1 (call f (trees_of ts)) (call f (trees_of (slice_set ts k u)))

    -- the rule's result for such a tree is one rewrite
    abbrev pub Keeps : (Tree V O → Option (Tree V O)) → Type 0
    Keeps rule = (t u : Tree V O) → P t → rule t ≡ Some u → R 1 t u

    module _ (over : GoesOver) where
      with_child_keeps : (t x u : Tree V O) (k : ℕ) → P t → slice_get (children_of t) k ≡ Some x
          → (P x → R 1 x u) → R 1 t (with_child t k u)
      with_child_keeps (leaf l) x u k p h made = cc
      with_child_keeps (constant s) x u k p h made = cc
      with_child_keeps (call f ts) x u k p h made =
          let same = same_trees ts in
          let q = subst (λ z. P (call f z)) (sym same) p in
          let one = made (over.child f (list_of ts) k x q h) in
          subst (λ z. R 1 (call f z) (with_child (call f ts) k u)) same
          (over.below f (list_of ts) k x u q h one)

      pub rewritten_keeps : (rule : Tree V O → Option (Tree V O)) → Keeps rule → (path : List ℕ)
          (t v : Tree V O) → P t → rewritten rule path t ≡ Some (Some v) → R 1 t v
      rewritten_keeps rule keeps [] t v p e = let is : rule t ≡ Some v = cc in keeps t v p is
      rewritten_keeps rule keeps (k ∷ path) t v p e =
          let put = option_map (option_map (with_child t k)) in
          let a = and_then_some (λ x. put (rewritten rule path x)) (slice_get (children_of t) k)
          (Some v) e in
          let b = mapped (option_map (with_child t k)) (rewritten rule path a.0) (Some v) a.2 in
          let c = mapped (with_child t k) b.0 v b.2 in
          let made = λ (q : P a.0).
          rewritten_keeps rule keeps path a.0 c.0 q (b.1 ∙ ap Some c.1) in
          subst (R 1 t) c.2 (with_child_keeps t a.0 c.0 k p a.1 made)

      pub rewritten_list_keeps : {A : Type 0} (apply : A → Tree V O → Option (Tree V O))
          → ((a : A) → Keeps (apply a)) → (steps : List (A × List ℕ)) (t v : Tree V O) (n : ℕ)
          → P t → rewritten_list apply steps t ≡ Some (v, n) → R n t v
      rewritten_list_keeps apply keeps [] t v n p e =
          let is : (t, 0) ≡ (v, n) = cc in
          subst (λ (a : Tree V O × ℕ). R a.1 t a.0) is (over.same t p)
      rewritten_list_keeps apply keeps (s ∷ steps) t v n p e =
          by (rewritten (apply s.0) s.1 t) refl e (rewritten_list_keeps apply keeps steps)
        where
          by : (made : Option (Option (Tree V O))) → rewritten (apply s.0) s.1 t ≡ made
              → then_others (rewritten_list apply steps) t made ≡ Some (v, n)
              → ((x y : Tree V O) (k : ℕ) → P x → rewritten_list apply steps x ≡ Some (y, k)
              → R k x y)
              → R n t v
          by None h q others = cc
          by (Some None) h q others = others t v n p q
          by (Some (Some u)) h q others =
              let a = mapped one_more (rewritten_list apply steps u) (v, n) q in
              let first = rewritten_keeps (apply s.0) (keeps s.0) s.1 t u p h in
              let rest = others u a.0.0 a.0.1 (over.kept 1 t u p first) a.1 in
              let all = over.after 1 a.0.1 (suc a.0.1) t u a.0.0 (omega arith) first rest in
              subst (λ (b : Tree V O × ℕ). R b.1 t b.0) a.2 all

      pub step_keeps : (rule : Tree V O → Option (Tree V O)) → Keeps rule → (t u : Tree V O) → P t
          → step rule t ≡ Some u → R 1 t u
      step_keeps rule keeps t u p e =
          let place = step_place rule t u e in
          rewritten_keeps rule keeps place.0 t u p place.1

      pub runs_keep : (rule : Tree V O → Option (Tree V O)) → Keeps rule → (n : ℕ) (t u : Tree V O)
          → P t → Runs rule n t u → R n t u
      runs_keep rule keeps zero t u p e = subst (R 0 t) e (over.same t p)
      runs_keep rule keeps (suc n) t v p (u, run, last) =
          let before = runs_keep rule keeps n t u p run in
          let one = step_keeps rule keeps u v (over.kept n t u p before) last in
          over.after n 1 (suc n) t u v (omega arith) before one
