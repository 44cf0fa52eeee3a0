-- The places so far of marks that are set, and one mark more.
use Rattle.std.proofs.Common.{◌≡◌, ℕ, zero, suc, ◌+◌, ◌<◌, ◌≤◌, List, [], ◌∷◌, ◌++◌, length, drop}
use Rattle.std.proofs.Common.{get_or, Bool, true, false, refl, sym, ap, ◌∙◌, subst, arith, add-one}
use Rattle.std.proofs.lemmas.List.{append_assoc, drop_all}
use Rattle.yurkije_core.specs.Fields.{marked_places}

-- the places of the marks from one on
abbrev pub places_from : ℕ → List Bool → List ℕ
places_from k marks = marked_places k (drop k marks)

-- a mark, and those after it
next_is : (marks : List Bool) (k : ℕ) (d : Bool) → k < length marks
    → drop k marks ≡ get_or marks k d ∷ drop (suc k) marks
next_is [] k d lt = absurd (omega (arith, lt))
next_is (m ∷ marks) zero d lt = refl
next_is (m ∷ marks) (suc k) d lt = next_is marks k d (omega (arith, lt))

module _ (marks : List Bool) (places : List ℕ) (k : ℕ) (d : Bool) (lt : k < length marks)
    (so_far : places ++ places_from k marks ≡ marked_places 0 marks) where
  opened : (b : Bool) → get_or marks k d ≡ b
      → places_from k marks ≡ marked_places k (b ∷ drop (suc k) marks)
  opened b is =
      ap (marked_places k) (next_is marks k d lt)
      ∙ ap (λ (x : Bool). marked_places k (x ∷ drop (suc k) marks)) is

  later : (j : ℕ) → j ≡ suc k → places_from (suc k) marks ≡ places_from j marks
  later j next = ap (λ (n : ℕ). places_from n marks) (sym next)

  pub place_more : (j : ℕ) → j ≡ suc k → get_or marks k d ≡ true
      → (places ++ k ∷ []) ++ places_from j marks ≡ marked_places 0 marks
  place_more j next is =
      append_assoc places (k ∷ []) (places_from j marks)
      ∙ ap (λ (ns : List ℕ). places ++ k ∷ ns) (sym (later j next))
      ∙ ap (λ (ns : List ℕ). places ++ ns) (sym (opened true is)) ∙ so_far

  pub place_less : (j : ℕ) → j ≡ suc k → get_or marks k d ≡ false
      → places ++ places_from j marks ≡ marked_places 0 marks
  place_less j next is =
      ap (λ (ns : List ℕ). places ++ ns) (sym (later j next))
      ∙ ap (λ (ns : List ℕ). places ++ ns) (sym (opened false is)) ∙ so_far

  pub place_next : (now : List ℕ) → now ≡ places ++ marked_places k (get_or marks k d ∷ [])
      → now ++ places_from (k + 1) marks ≡ marked_places 0 marks
  place_next now is = go (get_or marks k d) refl is
    where
      go : (b : Bool) → get_or marks k d ≡ b → now ≡ places ++ marked_places k (b ∷ [])
          → now ++ places_from (k + 1) marks ≡ marked_places 0 marks
      go true e h =
          subst (λ (ns : List ℕ). ns ++ places_from (k + 1) marks ≡ marked_places 0 marks) (sym h)
          (place_more (k + 1) (add-one k) e)
      go false e h =
          subst (λ (ns : List ℕ). ns ++ places_from (k + 1) marks ≡ marked_places 0 marks) (sym h)
          (append_assoc places [] (places_from (k + 1) marks) ∙ place_less (k + 1) (add-one k) e)

nil_right : (xs : List ℕ) → xs ++ [] ≡ xs
nil_right [] = refl
nil_right (x ∷ xs) = ap (λ (ys : List ℕ). x ∷ ys) (nil_right xs)

-- all marks were looked at
pub all_placed : (marks : List Bool) (places : List ℕ) (k : ℕ) → length marks ≤ k
    → places ++ places_from k marks ≡ marked_places 0 marks → places ≡ marked_places 0 marks
all_placed marks places k le so_far =
    sym (nil_right places)
    ∙ ap (λ (ns : List ℕ). places ++ ns) (sym (ap (marked_places k) (drop_all k marks le))) ∙ so_far
