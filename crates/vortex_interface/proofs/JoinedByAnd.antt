-- Trees joined by And in rounds: a property that two trees pass to their And passes from all of
-- them to the last one.
use Rattle.std.proofs.Common.{◌≡◌, ℕ, zero, suc, ◌+◌, ◌≤◌, Bool, true, false, List, [], ◌∷◌, length}
use Rattle.std.proofs.Common.{refl, sym, ap, ◌∙◌, subst, arith}
use Rattle.std.specs.Prelude.{◌&&◌}
use Rattle.vortex_operators.specs.declared.operators.Operator.TheVariants.{And}
use Rattle.vortex_interface.specs.Trees.{Tree}
use Rattle.vortex_interface.specs.ComparisonTrees.{operated}
use Rattle.vortex_interface.specs.Rules.{truth_constant}
use Rattle.vortex_interface.specs.ValidityRules.{one_round, rounds, first_or_true, all_of}

and_first : (p q r : Bool) → ((p && q) && r) ≡ (p && (q && r))
and_first true q r = refl
and_first false q r = refl

and_true : (p : Bool) → (p && true) ≡ p
and_true true = refl
and_true false = refl

module _ {V O : Type 0} where
  -- a round halves the trees
  round_halves : (ts : List (Tree V O)) → 2 ≤ length ts
      → length (one_round ts) + length (one_round ts) ≤ length ts
  round_halves [] h = absurd (omega arith)
  round_halves (a ∷ []) h = absurd (omega arith)
  round_halves (a ∷ b ∷ []) h = omega arith
  round_halves (a ∷ b ∷ c ∷ []) h = omega arith
  round_halves (a ∷ b ∷ c ∷ d ∷ ts) h =
      let k = round_halves (c ∷ d ∷ ts) (omega arith) in
      omega arith

  round_shorter : (n : ℕ) (ts : List (Tree V O)) → length ts ≤ suc (suc n)
      → length (one_round ts) ≤ suc n
  round_shorter n [] h = omega arith
  round_shorter n (a ∷ []) h = omega arith
  round_shorter n (a ∷ b ∷ ts) h =
      let k = round_halves (a ∷ b ∷ ts) (omega arith) in
      omega (arith, h)

  -- as many rounds as there are trees leave at most one
  rounds_end : (n : ℕ) (ts : List (Tree V O)) → length ts ≤ suc n → length (rounds n ts) ≤ 1
  rounds_end zero ts h = h
  rounds_end (suc n) ts h = rounds_end n (one_round ts) (round_shorter n ts h)

  one_stays : (n : ℕ) (ts : List (Tree V O)) → length ts ≤ 1 → rounds n ts ≡ ts
  one_stays zero ts h = refl
  one_stays (suc n) [] h = one_stays n [] h
  one_stays (suc n) (t ∷ []) h = one_stays n (t ∷ []) h
  one_stays (suc n) (t ∷ u ∷ ts) h = absurd (omega arith)

  -- more rounds change nothing
  enough_rounds : (n k : ℕ) (ts : List (Tree V O)) → length ts ≤ suc n → length ts ≤ suc k
      → rounds n ts ≡ rounds k ts
  enough_rounds zero k ts h l = sym (one_stays k ts h)
  enough_rounds (suc n) zero ts h l = one_stays (suc n) ts l
  enough_rounds (suc n) (suc k) ts h l =
      enough_rounds n k (one_round ts) (round_shorter n ts h) (round_shorter k ts l)

  -- a round does not change what is left in the end
  pub all_of-one_round : (ts : List (Tree V O)) → all_of (one_round ts) ≡ all_of ts
  all_of-one_round [] = refl
  all_of-one_round (t ∷ []) = refl
  all_of-one_round (t ∷ u ∷ ts) =
      let shorter = round_shorter (length ts) (t ∷ u ∷ ts) (omega arith) in
      ap first_or_true
      (enough_rounds (length (one_round (t ∷ u ∷ ts))) (suc (length ts)) (one_round (t ∷ u ∷ ts))
      (omega arith) (omega (arith, shorter)))

  -- P relates a tree to a truth value, and an And to the And of both
  module _ (P : Tree V O → Bool → Type 0) where
    -- it relates each tree to one, and this is their And
    abbrev pub AllSay : List (Tree V O) → Bool → Type 0
    AllSay [] b = true ≡ b
    AllSay (t ∷ ts) b = (p : Bool) × (q : Bool) × P t p × AllSay ts q × ((p && q) ≡ b)

    module _ (goes_over : (t u : Tree V O) (p q : Bool) → P t p → P u q
        → P (operated And t u) (p && q)) where
      round_says : (ts : List (Tree V O)) (b : Bool) → AllSay ts b → AllSay (one_round ts) b
      round_says [] b h = h
      round_says (t ∷ []) b h = h
      round_says (t ∷ u ∷ []) b (p, q, a, (r, s, c, e, f), g) = (
        p && r,
        s,
        goes_over t u p r a c,
        e,
        and_first p r s ∙ ap (λ z. p && z) f ∙ g,
      )
      round_says (t ∷ u ∷ x ∷ []) b (p, q, a, (r, s, c, (y, z, d, e, f), g), k) =
          let both = goes_over t u p r a c in
          let three = and_first (p && r) y z ∙ ap (λ o. (p && r) && o) f ∙ and_first p r s in (
            ((p && r) && y),
            z,
            goes_over (operated And t u) x (p && r) y both d,
            e,
            three ∙ ap (λ o. p && o) g ∙ k,
          )
      round_says (t ∷ u ∷ x ∷ y ∷ ts) b (p, q, a, (r, s, c, e, f), g) = (
        p && r,
        s,
        goes_over t u p r a c,
        round_says (x ∷ y ∷ ts) s e,
        and_first p r s ∙ ap (λ z. p && z) f ∙ g,
      )

      rounds_say : (n : ℕ) (ts : List (Tree V O)) (b : Bool) → AllSay ts b → AllSay (rounds n ts) b
      rounds_say zero ts b h = h
      rounds_say (suc n) ts b h = rounds_say n (one_round ts) b (round_says ts b h)

      first_says : P (truth_constant false true) true → (ts : List (Tree V O)) (b : Bool)
          → length ts ≤ 1 → AllSay ts b → P (first_or_true ts) b
      first_says none [] b l h = subst (P (truth_constant false true)) h none
      first_says none (t ∷ []) b l (p, q, a, e, f) =
          subst (P t) (sym (and_true p) ∙ ap (λ z. p && z) e ∙ f) a
      first_says none (t ∷ u ∷ ts) b l h = absurd (omega arith)

      pub all_of_says : P (truth_constant false true) true → (ts : List (Tree V O)) (b : Bool)
          → AllSay ts b → P (all_of ts) b
      all_of_says none ts b h =
          first_says none (rounds (length ts) ts) b (rounds_end (length ts) ts (omega arith))
          (rounds_say (length ts) ts b h)
