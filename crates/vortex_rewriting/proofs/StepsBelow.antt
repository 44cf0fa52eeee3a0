-- If everything before a place is in normal form, the step of the whole tree is the step at the
-- place.
use Rattle.std.proofs.Common.{◌≡◌, ℕ, suc, ◌<◌, List, [], ◌∷◌, ◌++◌, length, drop, Option, Some}
use Rattle.std.proofs.Common.{None, refl, sym, ap, ◌∙◌, arith}
use Rattle.std.specs.Option.{option_map, option_or}
use Rattle.vortex_interface.specs.Trees.{Tree, leaf, constant, call, tree, trees_of, list_of}
use Rattle.vortex_interface.specs.Trees.{children_of}
use Rattle.vortex_interface.specs.Driver.{step, step_in, Runs}
use Rattle.vortex_interface.proofs.StepPlaces.{same_trees}
use Rattle.vortex_rewriting.specs.Places.{with_children}
use Rattle.vortex_rewriting.specs.Frames.{partly, plug, AreSettled, AreFrames}

append_next : {A : Type 0} (xs : List A) (x : A) (ys : List A)
    → (xs ++ x ∷ []) ++ ys ≡ xs ++ x ∷ ys
append_next [] x ys = refl
append_next (z ∷ zs) x ys = ap (λ rest. z ∷ rest) (append_next zs x ys)

pub length_next : {A : Type 0} (xs : List A) (x : A) → length (xs ++ x ∷ []) ≡ suc (length xs)
length_next [] x = refl
length_next (z ∷ zs) x = ap suc (length_next zs x)

module _ {V O : Type 0} where
  -- a node on some first children, one more, and the others unchanged
  pub partly_more : (t : Tree V O) (done : List (Tree V O)) (u : Tree V O)
      → partly t (done ++ u ∷ [])
      ≡ with_children t (done ++ u ∷ drop (suc (length done)) (children_of t))
  partly_more t done u =
      ap (with_children t)
      (ap (λ n. (done ++ u ∷ []) ++ drop n (children_of t)) (length_next done u)
      ∙ append_next done u (drop (suc (length done)) (children_of t)))

  module _ (rule : Tree V O → Option (Tree V O)) where
    -- in a list whose first trees are in normal form, the step is that of the next tree
    step_in_next : (before : List (Tree V O)) (t u : Tree V O) (after : List (Tree V O))
        → AreSettled rule before → step rule t ≡ Some u
        → step_in rule (trees_of (before ++ t ∷ after)) ≡ Some (trees_of (before ++ u ∷ after))
    step_in_next [] t u after h e =
        ap (λ o. option_or (option_map (λ v. tree v (trees_of after)) o)
        (option_map (tree t) (step_in rule (trees_of after)))) e
    step_in_next (x ∷ xs) t u after h e =
        (λ j. option_or (option_map (λ v. tree v (trees_of (xs ++ t ∷ after))) (h.0 j))
        (option_map (tree x) (step_in_next xs t u after h.1 e j)))

    -- a list in normal form has none
    none_in_settled : (ts : List (Tree V O)) → AreSettled rule ts
        → step_in rule (trees_of ts) ≡ None
    none_in_settled [] h = refl
    none_in_settled (t ∷ ts) h =
        (λ j. option_or (option_map (λ u. tree u (trees_of ts)) (h.0 j))
        (option_map (tree t) (none_in_settled ts h.1 j)))

    -- the step of a tree whose children are in normal form is the rule's result for it
    pub step_at_root : (t : Tree V O) → AreSettled rule (children_of t) → step rule t ≡ rule t
    step_at_root (leaf l) h = refl
    step_at_root (constant s) h = refl
    step_at_root (call f ts) h =
        ap (λ o. option_or (option_map (call f) o) (rule (call f ts)))
        (ap (step_in rule) (sym (same_trees ts)) ∙ none_in_settled (list_of ts) h)

    step_at_child : (t : Tree V O) (before : List (Tree V O)) (x u : Tree V O)
        (after : List (Tree V O)) → 0 < length (children_of t) → AreSettled rule before
        → step rule x ≡ Some u
        → step rule (with_children t (before ++ x ∷ after))
        ≡ Some (with_children t (before ++ u ∷ after))
    step_at_child (leaf l) before x u after lt h e = absurd (omega (arith, lt))
    step_at_child (constant s) before x u after lt h e = absurd (omega (arith, lt))
    step_at_child (call f ts) before x u after lt h e =
        ap (λ o. option_or (option_map (call f) o)
        (rule (call f (trees_of (before ++ x ∷ after))))) (step_in_next before x u after h e)

    step_over : (t : Tree V O) (done : List (Tree V O)) (x u : Tree V O) → AreSettled rule done
        → length done < length (children_of t) → step rule x ≡ Some u
        → step rule (partly t (done ++ x ∷ [])) ≡ Some (partly t (done ++ u ∷ []))
    step_over t done x u h lt e =
        ap (step rule) (partly_more t done x)
        ∙ step_at_child t done x u (drop (suc (length done)) (children_of t))
        (omega (arith, lt)) h e
        ∙ ap Some (sym (partly_more t done u))

    pub step_plug : (fs : List (Tree V O × List (Tree V O))) (t u : Tree V O)
        → AreFrames rule fs → step rule t ≡ Some u → step rule (plug fs t) ≡ Some (plug fs u)
    step_plug [] t u h e = e
    step_plug (f ∷ fs) t u h e =
        step_over f.0 f.1 (plug fs t) (plug fs u) h.0 h.1 (step_plug fs t u h.2 e)

    -- a run, and one more step below frames
    pub run_on : (n : ℕ) (root whole t u : Tree V O) (fs : List (Tree V O × List (Tree V O)))
        → Runs rule n root whole → whole ≡ plug fs t → AreFrames rule fs → step rule t ≡ Some u
        → Runs rule (suc n) root (plug fs u)
    run_on n root whole t u fs run same frames e =
        (whole, run, ap (step rule) same ∙ step_plug fs t u frames e)
