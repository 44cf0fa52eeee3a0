-- A step is a rewrite at a place.
use Rattle.std.proofs.Common.{◌≡◌, ℕ, suc, List, [], ◌∷◌, Option, Some, refl, ap}
use Rattle.std.proofs.Common.{◌∙◌, subst}
use Rattle.std.specs.Prelude.{slice_get, slice_set}
use Rattle.std.specs.Option.{option_map, option_and_then}
use Rattle.vortex_interface.specs.Functions.{Function}
use Rattle.vortex_interface.specs.Trees.{Tree, leaf, constant, call, Trees, no_trees, tree, trees_of}
use Rattle.vortex_interface.specs.Trees.{list_of}
use Rattle.vortex_interface.specs.Places.{with_child, rewritten}
use Rattle.vortex_interface.specs.Driver.{step, step_in}
use Rattle.vortex_interface.proofs.RuleAnswers.{first_there, mapped}

module _ {V O : Type 0} where
  pub same_trees : (ts : Trees V O) → trees_of (list_of ts) ≡ ts
  same_trees no_trees = refl
  same_trees (tree t ts) = ap (tree t) (same_trees ts)

  module _ (rule : Tree V O → Option (Tree V O)) where
    -- one of several trees has a rewrite, and the others are unchanged
    record IsStepIn (ts us : Trees V O) : Type 0 where
      pub number : ℕ
      pub path : List ℕ
      pub old : Tree V O
      pub new : Tree V O
      pub there : slice_get (list_of ts) number ≡ Some old
      pub made : rewritten rule path old ≡ Some (Some new)
      pub others : trees_of (slice_set (list_of ts) number new) ≡ us

    -- a rewrite at some place
    abbrev pub IsSomewhere : Tree V O → Tree V O → Type 0
    IsSomewhere t u = (path : List ℕ) × (rewritten rule path t ≡ Some (Some u))

    below_call : (f : Function V O) (ts us : Trees V O) → IsStepIn ts us
        → IsSomewhere (call f ts) (call f us)
    below_call f ts us s =
        let put = option_map (option_map (with_child (call f ts) s.number)) in
        let at = ap (option_and_then (λ x. put (rewritten rule s.path x))) s.there in
        let made = ap put s.made in
        (s.number ∷ s.path, at ∙ made ∙ ap (λ z. Some (Some (call f z))) s.others)

    mutual
      pub step_place : (t u : Tree V O) → step rule t ≡ Some u → IsSomewhere t u
      step_place (leaf l) u e = ([], ap Some e)
      step_place (constant s) u e = ([], ap Some e)
      step_place (call f ts) u e =
          first_there (option_map (call f) (step_in rule ts)) (rule (call f ts)) u
          (IsSomewhere (call f ts) u) e
          (λ q.
          let a = mapped (call f) (step_in rule ts) u q in
          subst (IsSomewhere (call f ts)) a.2 (below_call f ts a.0 (step_in_place ts a.0 a.1)))
          (λ q. ([], ap Some q))

      step_in_place : (ts us : Trees V O) → step_in rule ts ≡ Some us → IsStepIn ts us
      step_in_place no_trees us e = cc
      step_in_place (tree t ts) us e =
          first_there (option_map (λ u. tree u ts) (step rule t))
          (option_map (tree t) (step_in rule ts)) us (IsStepIn (tree t ts) us) e
          (λ q.
          let a = mapped (λ u. tree u ts) (step rule t) us q in
          let p = step_place t a.0 a.1 in
          record {
            number = 0;
            path = p.0;
            old = t;
            new = a.0;
            there = refl;
            made = p.1;
            others = ap (tree a.0) (same_trees ts) ∙ a.2;
          })
          (λ q.
          let a = mapped (tree t) (step_in rule ts) us q in
          let s = step_in_place ts a.0 a.1 in
          record {
            number = suc s.number;
            path = s.path;
            old = s.old;
            new = s.new;
            there = s.there;
            made = s.made;
            others = ap (tree t) s.others ∙ a.2;
          })
