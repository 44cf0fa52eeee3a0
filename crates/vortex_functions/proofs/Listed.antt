-- A list of trees that are still to be visited.
use Rattle.std.proofs.Common.{◌≡◌, ◌+◌, ◌<◌, List, [], ◌∷◌, ◌++◌, length, take, take_all, map, ℕ}
use Rattle.std.proofs.Common.{◌≤◌, refl, sym, ap, subst, ◌∙◌, ◌↔◌, arith}
use Rattle.std.specs.Borrow.{Bor}
use Rattle.std.proofs.lemmas.List.{map-append}
use Rattle.vortex_columns.specs.ColumnView.{ColumnView}
use Rattle.vortex_interface.specs.Trees.{Tree, leaf, constant, call, Trees}
use Rattle.vortex_interface.specs.Trees.{trees_of, children_of, node_count, nodes_count}
use Rattle.vortex_interface.specs.Execution.{LeavesFit, AllLeavesFit}
use Rattle.vortex_interface.proofs.StepPlaces.{same_trees}
use Rattle.vortex_functions.specs.Executing.{NodeFits}

pub none_left : {A : Type 0} (xs : List A) → (0 < length xs → ⊥) → xs ≡ []
none_left [] h = refl
none_left (x ∷ xs) h = absurd (h (omega arith))

module _ {V O : Type 0} where
  abbrev pub now_of : List (Bor (Tree V O)) → List (Tree V O)
  now_of bs = map (λ b. b.now) bs

  popped : (all rest : List (Bor (Tree V O))) (b : Bor (Tree V O)) → all ≡ rest ++ b ∷ []
      → now_of all ≡ now_of rest ++ b.now ∷ []
  popped all rest b e = ap now_of e ∙ map-append (λ (x : Bor (Tree V O)). x.now) rest (b ∷ [])

  -- popping the list with a node's children pushed gives its last
  pub relisted : (before kids : List (Tree V O)) (list : List (Bor (Tree V O)))
      (rest : List (Bor (Tree V O))) (next : Bor (Tree V O))
      → now_of list ≡ before ++ kids → list ≡ rest ++ next ∷ []
      → before ++ kids ≡ now_of rest ++ next.now ∷ []
  relisted before kids list rest next e f = sym e ∙ popped list rest next f

  -- or there is no last
  pub nothing_listed : (before kids : List (Tree V O)) (list : List (Bor (Tree V O)))
      → now_of list ≡ before ++ kids → list ≡ [] → before ++ kids ≡ []
  nothing_listed before kids list e f = sym e ∙ ap now_of f

  -- all children were pushed
  pub all_listed : (before ts kids now : List (Tree V O)) (k : ℕ)
      → now ≡ before ++ take k ts → length ts ≤ k → ts ≡ kids → now ≡ before ++ kids
  all_listed before ts kids now k e h f =
      e ∙ ap (λ (xs : List (Tree V O)). before ++ xs) (take_all k ts h ∙ f)

  count_append : (xs ys : List (Tree V O))
      → nodes_count (trees_of (xs ++ ys)) ≡ nodes_count (trees_of xs) + nodes_count (trees_of ys)
  count_append [] ys = omega arith
  count_append (x ∷ xs) ys = omega (arith, count_append xs ys)

  children_fewer : (t : Tree V O) → nodes_count (trees_of (children_of t)) < node_count t
  children_fewer (leaf l) = omega arith
  children_fewer (constant s) = omega arith
  children_fewer (call f ts) = omega (arith, ap nodes_count (same_trees ts))

  -- the nodes of a tree and of a list decrease when the tree pushes its children to the list, which
  -- pops its last
  pub listed_fewer : (t next : Tree V O) (list rest : List (Tree V O))
      → list ++ children_of t ≡ rest ++ next ∷ []
      → node_count next + nodes_count (trees_of rest) < node_count t + nodes_count (trees_of list)
  listed_fewer t next list rest e =
      let a = count_append list (children_of t) in
      let b = count_append rest (next ∷ []) in
      let same = ap (λ xs. nodes_count (trees_of xs)) e in
      omega (arith, a, b, same, children_fewer t)

  module _ (cs : List ColumnView) where
    abbrev pub AllFit : List (Tree V O) → Type 0
    AllFit ts = AllLeavesFit cs (trees_of ts)

    fit_append : (xs ys : List (Tree V O)) → AllFit (xs ++ ys) ↔ (AllFit xs × AllFit ys)
    fit_append [] ys = (λ h. (tt, h), λ h. h.1)
    fit_append (x ∷ xs) ys =
        let r = fit_append xs ys in
        (λ h. ((h.0, (r.0 h.1).0), (r.0 h.1).1), λ h. (h.0.0, r.1 (h.0.1, h.1)))

    pub node_of_fitting : (t : Tree V O) → LeavesFit cs t → NodeFits cs t
    node_of_fitting (leaf l) h = h
    node_of_fitting (constant s) h = tt
    node_of_fitting (call f ts) h = tt

    fits_below : (t : Tree V O) → NodeFits cs t → AllFit (children_of t) ↔ LeavesFit cs t
    fits_below (leaf l) h = (λ g. h, λ g. tt)
    fits_below (constant s) h = (λ g. tt, λ g. tt)
    fits_below (call f ts) h = (
      λ g. subst (λ (us : Trees V O). AllLeavesFit cs us) (same_trees ts) g,
      λ g. subst (λ (us : Trees V O). AllLeavesFit cs us) (sym (same_trees ts)) g,
    )

    -- the tree matches where the node and the list do; this is kept when the node, which itself
    -- matches, pushes its children to the list, which pops its last
    pub listed_fit : (root t next : Tree V O) (list rest : List (Tree V O))
        → (LeavesFit cs root ↔ (LeavesFit cs t × AllFit list)) → NodeFits cs t
        → list ++ children_of t ≡ rest ++ next ∷ []
        → LeavesFit cs root ↔ (LeavesFit cs next × AllFit rest)
    listed_fit root t next list rest inv node e =
        let a = fit_append list (children_of t) in
        let b = fit_append rest (next ∷ []) in
        let q = fits_below t node in (
          λ h.
              let g = inv.0 h in
              let all = subst (λ xs. AllFit xs) e (a.1 (g.1, q.1 g.0)) in
              let r = b.0 all in (r.1.0, r.0),
          λ h.
              let all = b.1 (h.1, (h.0, tt)) in
              let g = a.0 (subst (λ xs. AllFit xs) (sym e) all) in
              inv.1 (q.0 g.1, g.0),
        )

    pub last_fits : (root t : Tree V O) (list : List (Tree V O))
        → (LeavesFit cs root ↔ (LeavesFit cs t × AllFit list)) → NodeFits cs t
        → list ++ children_of t ≡ [] → LeavesFit cs root
    last_fits root t list inv node e =
        let a = fit_append list (children_of t) in
        let q = fits_below t node in
        let g = a.0 (subst (λ (xs : List (Tree V O)). AllFit xs) (sym e) tt) in
        inv.1 (q.0 g.1, g.0)
