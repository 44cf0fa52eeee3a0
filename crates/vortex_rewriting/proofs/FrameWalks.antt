-- How a walk below frames continues, and how much of it is left.
use Rattle.std.proofs.Common.{◌≡◌, ℕ, zero, suc, ◌+◌, ◌*◌, ◌<◌, ◌≤◌, List, [], ◌∷◌, ◌++◌, length}
use Rattle.std.proofs.Common.{drop, Option, Some, None, refl, sym, ap, subst, ◌∙◌, arith}
use Rattle.std.specs.Prelude.{slice_get, IsSome}
use Rattle.std.proofs.lemmas.List.{append-nil, drop_all}
use Rattle.vortex_interface.specs.Trees.{Tree, leaf, constant, call, trees_of, children_of}
use Rattle.vortex_interface.specs.Trees.{node_count, nodes_count}
use Rattle.vortex_interface.specs.Driver.{step}
use Rattle.vortex_interface.specs.Meaning.{Meaning}
use Rattle.vortex_interface.specs.Eval.{tree_type}
use Rattle.vortex_rewriting.specs.Places.{with_children}
use Rattle.vortex_rewriting.specs.Frames.{partly, plug, AreSettled, AreFrames}
use Rattle.vortex_interface.proofs.StepPlaces.{same_trees}
use Rattle.vortex_interface.proofs.Driving.{child_typed}
use Rattle.vortex_functions.proofs.TreeLists.{list_of-trees_of}
use Rattle.vortex_rewriting.proofs.StepsBelow.{partly_more, step_at_root}

drop_at : {A : Type 0} (xs : List A) (k : ℕ) (x : A) → slice_get xs k ≡ Some x
    → drop k xs ≡ x ∷ drop (suc k) xs
drop_at [] k x e = cc
drop_at (y ∷ ys) zero x e = let p : y ≡ x = cc in ap (λ z. z ∷ ys) p
drop_at (y ∷ ys) (suc k) x e = drop_at ys k x e

get_next : {A : Type 0} (xs : List A) (x : A) (ys : List A)
    → slice_get (xs ++ x ∷ ys) (length xs) ≡ Some x
get_next [] x ys = refl
get_next (z ∷ zs) x ys = get_next zs x ys

pub some_of : {A : Type 0} (o : Option A) → IsSome o → (a : A) × (o ≡ Some a)
some_of None h = cc
some_of (Some a) h = (a, refl)

pub some_is : {A : Type 0} (o : Option A) (a : A) → o ≡ Some a → IsSome o
some_is None a e = cc
some_is (Some x) a e = refl

module _ {V O : Type 0} where
  -- before any child is done a node is unchanged
  pub partly_none : (t : Tree V O) → partly t [] ≡ t
  partly_none (leaf l) = refl
  partly_none (constant s) = refl
  partly_none (call f ts) = ap (call f) (same_trees ts)

  pub partly_empty : (t : Tree V O) (done : List (Tree V O)) → length done ≡ 0
      → t ≡ partly t done
  partly_empty t [] h = sym (partly_none t)
  partly_empty t (x ∷ xs) h = absurd (omega (arith, h))

  -- an unchanged next child is no change
  pub partly_next : (t : Tree V O) (done : List (Tree V O)) (x : Tree V O)
      → slice_get (children_of t) (length done) ≡ Some x
      → partly t (done ++ x ∷ []) ≡ partly t done
  partly_next t done x e =
      partly_more t done x
      ∙ ap (λ xs. with_children t (done ++ xs)) (sym (drop_at (children_of t) (length done) x e))

  -- after all children none is unchanged
  pub partly_all : (t : Tree V O) (done : List (Tree V O))
      → length (children_of t) ≤ length done → partly t done ≡ with_children t done
  partly_all t done h =
      ap (with_children t)
      (ap (λ xs. done ++ xs) (drop_all (length done) (children_of t) h) ∙ append-nil done)

  pub plug_push : (fs : List (Tree V O × List (Tree V O))) (f : Tree V O × List (Tree V O))
      (t : Tree V O) → plug (fs ++ f ∷ []) t ≡ plug fs (partly f.0 (f.1 ++ t ∷ []))
  plug_push [] f t = refl
  plug_push (x ∷ xs) f t = ap (λ u. partly x.0 (x.1 ++ u ∷ [])) (plug_push xs f t)

  module _ (rule : Tree V O → Option (Tree V O)) where
    pub settled_next : (ts : List (Tree V O)) (t : Tree V O) → AreSettled rule ts
        → step rule t ≡ None → AreSettled rule (ts ++ t ∷ [])
    settled_next [] t h e = (e, tt)
    settled_next (x ∷ xs) t h e = (h.0, settled_next xs t h.1 e)

    pub frames_push : (fs : List (Tree V O × List (Tree V O))) (f : Tree V O × List (Tree V O))
        → AreFrames rule fs → AreSettled rule f.1 → length f.1 < length (children_of f.0)
        → AreFrames rule (fs ++ f ∷ [])
    frames_push [] f h s lt = (s, lt, tt)
    frames_push (x ∷ xs) f h s lt = (h.0, h.1, frames_push xs f h.2 s lt)

    pub frames_pop : (fs : List (Tree V O × List (Tree V O))) (f : Tree V O × List (Tree V O))
        → AreFrames rule (fs ++ f ∷ [])
        → AreFrames rule fs × AreSettled rule f.1 × (length f.1 < length (children_of f.0))
    frames_pop [] f h = (tt, h.0, h.1)
    frames_pop (x ∷ xs) f h = let r = frames_pop xs f h.2 in ((h.0, h.1, r.0), r.1, r.2)

    settled_children : (t : Tree V O) (done : List (Tree V O)) → AreSettled rule done
        → AreSettled rule (children_of (with_children t done))
    settled_children (leaf l) done h = tt
    settled_children (constant s) done h = tt
    settled_children (call f ts) done h = subst (AreSettled rule) (sym (list_of-trees_of done)) h

    -- the step of a node whose children are in normal form is the rule's result for it
    pub step_when_done : (t : Tree V O) (done : List (Tree V O)) → AreSettled rule done
        → length (children_of t) ≤ length done → step rule (partly t done) ≡ rule (partly t done)
    step_when_done t done h le =
        step_at_root rule (partly t done)
        (subst (λ u. AreSettled rule (children_of u)) (sym (partly_all t done le))
        (settled_children t done h))

    module _ (m : Meaning V O) where
      child_of : (t : Tree V O) (before : List (Tree V O)) (x : Tree V O) (after : List (Tree V O))
          → 0 < length (children_of t)
          → IsSome (tree_type m (with_children t (before ++ x ∷ after)))
          → IsSome (tree_type m x)
      child_of (leaf l) before x after lt h = absurd (omega (arith, lt))
      child_of (constant s) before x after lt h = absurd (omega (arith, lt))
      child_of (call f ts) before x after lt h =
          let typed = child_typed m f (before ++ x ∷ after) (length before) x
          (some_of (tree_type m (call f (trees_of (before ++ x ∷ after)))) h)
          (get_next before x after) in
          some_is (tree_type m x) typed.0 typed.1

      -- what is below frames in a well-typed tree is well typed
      pub below_typed : (fs : List (Tree V O × List (Tree V O))) (t : Tree V O)
          → AreFrames rule fs → IsSome (tree_type m (plug fs t)) → IsSome (tree_type m t)
      below_typed [] t h typed = typed
      below_typed (f ∷ fs) t h typed =
          below_typed fs t h.2
          (child_of f.0 f.1 (plug fs t) (drop (suc (length f.1)) (children_of f.0))
          (let lt = h.1 in omega (arith, lt))
          (subst (λ u. IsSome (tree_type m u)) (partly_more f.0 f.1 (plug fs t)) typed))

  -- what is left of a walk at a node from its k-th child on, and in the frames
  abbrev pub left_from : Tree V O → ℕ → ℕ
  left_from t k = 2 * nodes_count (trees_of (drop k (children_of t))) + 1

  abbrev pub left_above : List (Tree V O × List (Tree V O)) → ℕ
  left_above [] = 0
  left_above (f ∷ fs) = left_from f.0 (suc (length f.1)) + left_above fs

  left_push : (fs : List (Tree V O × List (Tree V O))) (f : Tree V O × List (Tree V O))
      → left_above (fs ++ f ∷ []) ≡ left_above fs + left_from f.0 (suc (length f.1))
  left_push [] f = omega arith
  left_push (x ∷ xs) f = omega (arith, left_push xs f)

  nodes_from : (ts : List (Tree V O)) (k : ℕ) (t : Tree V O) → slice_get ts k ≡ Some t
      → nodes_count (trees_of (drop k ts))
      ≡ node_count t + nodes_count (trees_of (drop (suc k) ts))
  nodes_from ts k t e = ap (λ xs. nodes_count (trees_of xs)) (drop_at ts k t e)

  node_and_children : (t : Tree V O)
      → node_count t ≡ suc (nodes_count (trees_of (children_of t)))
  node_and_children (leaf l) = refl
  node_and_children (constant s) = refl
  node_and_children (call f ts) = ap (λ us. suc (nodes_count us)) (sym (same_trees ts))

  -- past a child
  pub past_fewer : (t : Tree V O) (done : List (Tree V O)) (x : Tree V O)
      → slice_get (children_of t) (length done) ≡ Some x
      → left_from t (suc (length done)) < left_from t (length done)
  past_fewer t done x e =
      omega (arith, nodes_from (children_of t) (length done) x e, node_and_children x)

  -- down to a child
  pub down_fewer : (fs : List (Tree V O × List (Tree V O))) (f : Tree V O × List (Tree V O))
      (x : Tree V O) → slice_get (children_of f.0) (length f.1) ≡ Some x
      → left_above (fs ++ f ∷ []) + left_from x 0 < left_above fs + left_from f.0 (length f.1)
  down_fewer fs f x e =
      omega (
        arith,
        left_push fs f,
        nodes_from (children_of f.0) (length f.1) x e,
        node_and_children x,
      )

  -- up from a node
  pub up_fewer : (fs : List (Tree V O × List (Tree V O))) (f : Tree V O × List (Tree V O))
      (t : Tree V O) (k : ℕ)
      → left_above fs + left_from f.0 (suc (length f.1))
      < left_above (fs ++ f ∷ []) + left_from t k
  up_fewer fs f t k = omega (arith, left_push fs f)
