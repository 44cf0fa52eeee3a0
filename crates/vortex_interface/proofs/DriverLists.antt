-- How code walks a list of rules at places: rule after rule.
use Rattle.std.proofs.Common.{◌≡◌, ℕ, zero, suc, ◌+◌, ◌≤◌, List, [], ◌∷◌, ◌++◌, length, take, drop}
use Rattle.std.proofs.Common.{Option, Some, None, refl, sym, ap, ◌∙◌, arith, add-one}
use Rattle.std.specs.Prelude.{slice_get}
use Rattle.std.specs.Option.{option_map}
use Rattle.std.proofs.lemmas.List.{take_all, take-append-drop}
use Rattle.vortex_interface.specs.Trees.{Tree}
use Rattle.vortex_interface.specs.Places.{rewritten, one_more, then_others, rewritten_list}
use Rattle.vortex_interface.proofs.RuleAnswers.{mapped}
use Rattle.vortex_interface.proofs.DriverSteps.{take_next}

drop_at : {A : Type 0} (xs : List A) (k : ℕ) (x : A) → slice_get xs k ≡ Some x
    → drop k xs ≡ x ∷ drop (suc k) xs
drop_at [] k x h = cc
drop_at (y ∷ ys) zero x h = let is : y ≡ x = cc in ap (λ z. z ∷ ys) is
drop_at (y ∷ ys) (suc k) x h = drop_at ys k x h

module _ {V O A : Type 0} (apply : A → Tree V O → Option (Tree V O)) where
  -- a tree and a count, after n more
  abbrev more_by : ℕ → Tree V O × ℕ → Tree V O × ℕ
  more_by n a = (a.0, n + a.1)

  none_before : (o : Option (Tree V O × ℕ)) → o ≡ option_map (more_by 0) o
  none_before None = refl
  none_before (Some a) = let e : a.1 ≡ 0 + a.1 = omega arith in λ j. Some (a.0, e j)

  one_before : (n : ℕ) (o : Option (Tree V O × ℕ))
      → option_map one_more (option_map (more_by n) o) ≡ option_map (more_by (suc n)) o
  one_before n None = refl
  one_before n (Some a) =
      let e : suc (n + a.1) ≡ suc n + a.1 = omega arith in
      λ j. Some (a.0, e j)

  -- a list after another whose tree and count are known
  list_after : (before others : List (A × List ℕ)) (t x : Tree V O) (n : ℕ)
      → rewritten_list apply before t ≡ Some (x, n)
      → rewritten_list apply (before ++ others) t
      ≡ option_map (more_by n) (rewritten_list apply others x)
  list_after [] others t x n e =
      let is : (t, 0) ≡ (x, n) = cc in
      none_before (rewritten_list apply others t)
      ∙ ap (λ (a : Tree V O × ℕ). option_map (more_by a.1) (rewritten_list apply others a.0)) is
  list_after (s ∷ before) others t x n e =
      by (rewritten (apply s.0) s.1 t) e (list_after before others)
    where
      by : (made : Option (Option (Tree V O)))
          → then_others (rewritten_list apply before) t made ≡ Some (x, n)
          → ((y z : Tree V O) (k : ℕ) → rewritten_list apply before y ≡ Some (z, k)
          → rewritten_list apply (before ++ others) y
          ≡ option_map (more_by k) (rewritten_list apply others z))
          → then_others (rewritten_list apply (before ++ others)) t made
          ≡ option_map (more_by n) (rewritten_list apply others x)
      by None q after = cc
      by (Some None) q after = after t x n q
      by (Some (Some u)) q after =
          let a = mapped one_more (rewritten_list apply before u) (x, n) q in
          ap (option_map one_more) (after u a.0.0 a.0.1 a.1)
          ∙ one_before a.0.1 (rewritten_list apply others a.0.0)
          ∙ ap (λ (b : Tree V O × ℕ). option_map (more_by b.1) (rewritten_list apply others b.0))
          a.2

  module _ (steps : List (A × List ℕ)) (k : ℕ) (t x : Tree V O) (n : ℕ)
      (before : rewritten_list apply (take k steps) t ≡ Some (x, n)) where
    -- no more rules are left
    pub list_ends : length steps ≤ k → rewritten_list apply steps t ≡ Some (x, n)
    list_ends h =
        sym (ap (λ z. rewritten_list apply z t) (take_all k steps h)) ∙ before

    module _ (s : A × List ℕ) (there : slice_get steps k ≡ Some s) where
      -- the next path leaves the tree
      pub list_leaves : rewritten (apply s.0) s.1 x ≡ None → rewritten_list apply steps t ≡ None
      list_leaves h =
          let rest = drop (suc k) steps in
          let next = ap (then_others (rewritten_list apply rest) x) h in
          sym (ap (λ z. rewritten_list apply z t) (take-append-drop k steps))
          ∙ ap (λ z. rewritten_list apply (take k steps ++ z) t) (drop_at steps k s there)
          ∙ list_after (take k steps) (s ∷ rest) t x n before
          ∙ ap (option_map (more_by n)) next

      next_list : (made : Option (Tree V O × ℕ)) → rewritten_list apply (s ∷ []) x ≡ made
          → rewritten_list apply (take (k + 1) steps) t ≡ option_map (more_by n) made
      next_list made e =
          rw (add-one, take_next steps k s there)
          (list_after (take k steps) (s ∷ []) t x n before ∙ ap (option_map (more_by n)) e)

      -- the next one does not apply, or it does
      pub list_passes : rewritten (apply s.0) s.1 x ≡ Some None
          → rewritten_list apply (take (k + 1) steps) t ≡ Some (x, n)
      list_passes h =
          let e : n + 0 ≡ n = omega arith in
          next_list (Some (x, 0)) (ap (then_others (rewritten_list apply []) x) h)
          ∙ (λ j. Some (x, e j))

      pub list_counts : (u : Tree V O) → rewritten (apply s.0) s.1 x ≡ Some (Some u)
          → rewritten_list apply (take (k + 1) steps) t ≡ Some (u, n + 1)
      list_counts u h =
          next_list (Some (u, 1)) (ap (then_others (rewritten_list apply []) x) h)
