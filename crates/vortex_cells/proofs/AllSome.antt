-- All elements of a list, if none is missing.
use Rattle.std.proofs.Common.{◌≡◌, ◌∙◌, ℕ, zero, suc, ◌+◌, ◌<◌, Option, Some, None, List, [], ◌∷◌}
use Rattle.std.proofs.Common.{◌++◌, map, take, length, get_or, add-one, refl, ap, arith}
use Rattle.std.proofs.Math.Seq.{take-suc}
use Rattle.std.proofs.lemmas.List.{get_or-map, length-map, map-append}
use Rattle.vortex_cells.specs.CellValues.{with_first, all_some}

module _ {A : Type 0} where
  abbrev with_last : Option (List A) → Option A → Option (List A)
  with_last None o = None
  with_last (Some xs) None = None
  with_last (Some xs) (Some x) = Some (xs ++ x ∷ [])

  carried : (p : Option A) (r : Option (List A)) (o : Option A)
      → with_first p (with_last r o) ≡ with_last (with_first p r) o
  carried None r o = refl
  carried (Some y) None o = refl
  carried (Some y) (Some xs) None = refl
  carried (Some y) (Some xs) (Some x) = refl

  appended : (os : List (Option A)) (o : Option A)
      → all_some (os ++ o ∷ []) ≡ with_last (all_some os) o
  appended [] None = refl
  appended [] (Some x) = refl
  appended (p ∷ os) o = ap (with_first p) (appended os o) ∙ carried p (all_some os) o

  -- one more, not missing
  pub some_more : (os : List (Option A)) (xs : List A) (o : Option A) (x : A)
      → all_some os ≡ Some xs → o ≡ Some x → all_some (os ++ o ∷ []) ≡ Some (xs ++ x ∷ [])
  some_more os xs o x h e = appended os o ∙ (λ i. with_last (h i) (e i))

  pub none_first : (o : Option A) → with_first o None ≡ None
  none_first None = refl
  none_first (Some x) = refl

  -- one that is missing
  pub one_missing : (os : List (Option A)) (k : ℕ) → k < length os → get_or os k None ≡ None
      → all_some os ≡ None
  one_missing [] k lt e = absurd (omega (arith, lt))
  one_missing (o ∷ os) zero lt e = ap (λ p. with_first p (all_some os)) e
  one_missing (o ∷ os) (suc k) lt e =
      ap (with_first o) (one_missing os k (omega (arith, lt)) e) ∙ none_first o

-- the same for what is made of the elements of a list
module _ {W B A : Type 0} (f : B → Option A) (g : W → B) (ws : List W) (i : ℕ) (d : W) where
  taken : i < length ws → take (i + 1) ws ≡ take i ws ++ get_or ws i d ∷ []
  taken lt = ap (λ (n : ℕ). take n ws) (add-one i) ∙ take-suc ws i d lt

  pub next_some : (xs : List A) (x : A) → i < length ws
      → all_some (map f (map g (take i ws))) ≡ Some xs → f (g (get_or ws i d)) ≡ Some x
      → all_some (map f (map g (take (i + 1) ws))) ≡ Some (xs ++ x ∷ [])
  next_some xs x lt h e =
      ap (λ (vs : List W). all_some (map f (map g vs))) (taken lt)
      ∙ ap (λ (vs : List B). all_some (map f vs)) (map-append g (take i ws) (get_or ws i d ∷ []))
      ∙ ap all_some (map-append f (map g (take i ws)) (g (get_or ws i d) ∷ []))
      ∙ some_more (map f (map g (take i ws))) xs (f (g (get_or ws i d))) x h e

  pub some_missing : i < length ws → f (g (get_or ws i d)) ≡ None
      → all_some (map f (map g ws)) ≡ None
  some_missing lt e =
      one_missing (map f (map g ws)) i
      (omega (arith, lt, length-map ws g, length-map (map g ws) f))
      (get_or-map f (map g ws) i (g d) None (omega (arith, lt, length-map ws g))
      ∙ ap f (get_or-map g ws i d (g d) lt)
      ∙ e)
