-- The test passes exactly where the tokens match.
use Rattle.std.proofs.Common.{◌≡◌, ◌⊎◌, inl, inr, ℕ, zero, suc, Bool, true, false, List, [], ◌∷◌}
use Rattle.std.proofs.Common.{drop}
use Rattle.std.proofs.Common.{refl, sym, ap, ◌∙◌}
use Rattle.std.specs.Prelude.{◌↔◌, ◌||◌, ◌&&◌, IsTrue}
use Rattle.std.specs.List.{list_any}
use Rattle.vortex_like.specs.Tokens.{Token, any, one, character, Match, is_match}
use Rattle.vortex_like.specs.Tokens.{endings, same_character, TestDecidesMatch}
use Rattle.vortex_like.proofs.Walking.{any_after, after_any}

or_cases : (a b : Bool) → a || b ≡ true → (a ≡ true) ⊎ (b ≡ true)
or_cases true b e = inl refl
or_cases false b e = inr e

or_left : (a b : Bool) → a ≡ true → a || b ≡ true
or_left true b e = refl
or_left false b e = cc

or_right : (a b : Bool) → b ≡ true → a || b ≡ true
or_right true b e = refl
or_right false b e = e

and_left : (a b : Bool) → a && b ≡ true → a ≡ true
and_left true b e = refl
and_left false b e = cc

and_right : (a b : Bool) → a && b ≡ true → b ≡ true
and_right true b e = e
and_right false b e = cc

and_both : (a b : Bool) → a ≡ true → b ≡ true → a && b ≡ true
and_both true b e f = f
and_both false b e f = cc

-- some suffix passes a test
pub ending_passes : (p : List ℕ → Bool) (text : List ℕ) → list_any p (endings text) ≡ true
    → (j : ℕ) × (p (drop j text) ≡ true)
ending_passes p [] e =
    elim (or_cases (p []) false e) [ inl h ↦ (0, h) | inr f ↦ absurd (no_truth f) ]
  where
    no_truth : false ≡ true → ⊥
    no_truth f = cc
ending_passes p (c ∷ text) e =
    elim (or_cases (p (c ∷ text)) (list_any p (endings text)) e) [
      | inl h ↦ (0, h)
      | inr f ↦ let r = ending_passes p text f in (suc r.0, r.1)
    ]

pub passes_ending : (p : List ℕ → Bool) (text : List ℕ) (j : ℕ) → p (drop j text) ≡ true
    → list_any p (endings text) ≡ true
passes_ending p [] zero h = or_left (p []) false h
passes_ending p [] (suc j) h = or_left (p []) false h
passes_ending p (c ∷ text) zero h = or_left (p (c ∷ text)) (list_any p (endings text)) h
passes_ending p (c ∷ text) (suc j) h =
    or_right (p (c ∷ text)) (list_any p (endings text)) (passes_ending p text j h)

module _ (fold : Bool) where
  pub match_tested : (ts : List Token) (text : List ℕ) → is_match fold ts text ≡ true
      → Match fold ts text
  match_tested [] [] e = refl
  match_tested [] (c ∷ text) e = cc
  match_tested (any ∷ ts) text e =
      let r = ending_passes (is_match fold ts) text e in
      after_any fold ts text r.0 (match_tested ts (drop r.0 text) r.1)
  match_tested (one ∷ ts) [] e = cc
  match_tested (one ∷ ts) (c ∷ text) e = (c, text, refl, match_tested ts text e)
  match_tested (character own ∷ ts) [] e = cc
  match_tested (character own ∷ ts) (c ∷ text) e = (
    c,
    text,
    refl,
    and_left (same_character fold own c) (is_match fold ts text) e,
    match_tested ts text (and_right (same_character fold own c) (is_match fold ts text) e),
  )

  pub test_matched : (ts : List Token) (text : List ℕ) → Match fold ts text
      → is_match fold ts text ≡ true
  test_matched [] text m = ap (λ (t : List ℕ). is_match fold [] t) m
  test_matched (any ∷ ts) text m =
      let a = any_after fold ts text m in
      passes_ending (is_match fold ts) text a.0 (test_matched ts (drop a.0 text) a.1)
  test_matched (one ∷ ts) text m =
      ap (λ (t : List ℕ). is_match fold (one ∷ ts) t) m.2 ∙ test_matched ts m.1 m.3
  test_matched (character own ∷ ts) text m =
      ap (λ (t : List ℕ). is_match fold (character own ∷ ts) t) m.2
      ∙ and_both (same_character fold own m.0) (is_match fold ts m.1) m.3
      (test_matched ts m.1 m.4)

  -- a result that is true exactly where the tokens match is that of the test
  pub answer_is : (b : Bool) (ts : List Token) (text : List ℕ) → IsTrue b ↔ Match fold ts text
      → b ≡ is_match fold ts text
  answer_is b ts text h =
      by b (is_match fold ts text) (λ p. test_matched ts text (h.0 p))
      (λ e. h.1 (match_tested ts text e))
    where
      by : (b t : Bool) → (b ≡ true → t ≡ true) → (t ≡ true → b ≡ true) → b ≡ t
      by true t f g = sym (f refl)
      by false true f g = g refl
      by false false f g = refl

  -- and conversely
  pub test_answers : (b : Bool) (ts : List Token) (text : List ℕ) → b ≡ is_match fold ts text
      → IsTrue b ↔ Match fold ts text
  test_answers b ts text e = (
    λ is. match_tested ts text (sym e ∙ is),
    λ m. e ∙ test_matched ts text m,
  )

pub test_decides_match : TestDecidesMatch
test_decides_match fold ts text = (match_tested fold ts text, test_matched fold ts text)
