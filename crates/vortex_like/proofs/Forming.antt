-- The shapes of patterns with a literal part, and their tokens.
use Rattle.std.proofs.Common.{◌≡◌, ℕ, Bool, true, false, List, [], ◌∷◌, ◌++◌, map, Option, refl}
use Rattle.std.proofs.Common.{sym, ap}
use Rattle.std.proofs.Common.{◌∙◌, cond}
use Rattle.std.proofs.lemmas.Bool.{or_parts, and_parts, and_left, or_left, false_from_ne_true}
use Rattle.std.proofs.lemmas.List.{append-nil}
use Rattle.std.specs.Prelude.{◌||◌, ◌&&◌, ◌==◌, not}
use Rattle.std.specs.List.{list_any}
use Rattle.vortex_like.specs.Cuts.{is_special, StartsSpecial}
use Rattle.vortex_like.specs.Tokens.{Token, any, one, character, tokens_of, percent, underscore}
use Rattle.vortex_like.specs.Tokens.{is_escape}
use Rattle.vortex_like.specs.Forms.{is_literal, is_percent, is_literal_then_percent}
use Rattle.vortex_like.specs.Shapes.{whole_tokens, front_tokens}
use Rattle.vortex_like.proofs.Shapes.{plain_tokens, unescaped_first}

module _ (escape : Option ℕ) where
  any_prefix : (front rest : List ℕ) → list_any (is_special escape) front ≡ false
      → list_any (is_special escape) (front ++ rest) ≡ list_any (is_special escape) rest
  any_prefix [] rest e = refl
  any_prefix (c ∷ front) rest e =
      let parts = or_parts (is_special escape c) (list_any (is_special escape) front) e in
      ap (λ (b : Bool). b || list_any (is_special escape) (front ++ rest)) parts.0
      ∙ any_prefix front rest parts.1

  percent_front : (front rest : List ℕ) (c : ℕ) → list_any (is_special escape) front ≡ false
      → is_literal_then_percent escape (front ++ c ∷ rest)
      ≡ is_literal_then_percent escape (c ∷ rest)
  percent_front [] rest c e = refl
  percent_front (x ∷ []) rest c e =
      let parts = or_parts (is_special escape x) false e in
      ap (λ (b : Bool). not b && is_literal_then_percent escape (c ∷ rest)) parts.0
  percent_front (x ∷ y ∷ front) rest c e =
      let parts = or_parts (is_special escape x) (list_any (is_special escape) (y ∷ front)) e in
      ap (λ (b : Bool). not b && is_literal_then_percent escape (y ∷ front ++ c ∷ rest)) parts.0
      ∙ percent_front (y ∷ front) rest c parts.1

  pub whole_front : (pattern front rest : List ℕ) → pattern ≡ front ++ rest → rest ≡ []
      → list_any (is_special escape) front ≡ false
      → (is_literal escape pattern ≡ true) × (tokens_of escape pattern ≡ whole_tokens front)
  whole_front pattern front rest e f plain =
      let same : pattern ≡ front ++ [] = e ∙ ap (λ (cs : List ℕ). front ++ cs) f in (
        ap (is_literal escape) same ∙ ap not (any_prefix front [] plain),
        ap (tokens_of escape) same ∙ plain_tokens escape front [] plain
            ∙ append-nil (map character front),
      )

  -- a special character follows the part
  pub no_literal : (pattern front rest behind : List ℕ) (c : ℕ) → pattern ≡ front ++ rest
      → rest ≡ c ∷ behind → list_any (is_special escape) front ≡ false → StartsSpecial escape rest
      → is_literal escape pattern ≡ false
  no_literal pattern front rest behind c e f plain special =
      ap (is_literal escape) e ∙ ap not (any_prefix front rest plain) ∙ by rest behind c f special
    where
      by : (rest behind : List ℕ) (c : ℕ) → rest ≡ c ∷ behind → StartsSpecial escape rest
          → not (list_any (is_special escape) rest) ≡ false
      by [] behind c f special = cc
      by (x ∷ rest) behind c f special =
          ap not (or_left (is_special escape x) (list_any (is_special escape) rest) special)

  -- a `%` that is not the escape, first in a pattern
  pub percent_first : (c : ℕ) (rest : List ℕ) → is_percent escape c ≡ true
      → tokens_of escape (c ∷ rest) ≡ any ∷ tokens_of escape rest
  percent_first c rest p =
      let parts = and_parts (c == percent) (not (is_escape escape c)) p in
      unescaped_first escape c rest (no_escape (is_escape escape c) parts.1)
      ∙ ap
      (λ (b : Bool). cond b any (cond (c == underscore) one (character c)) ∷ tokens_of escape rest)
      parts.0
    where
      no_escape : (b : Bool) → not b ≡ true → b ≡ false
      no_escape true h = cc
      no_escape false h = refl

  pub percent_behind : (pattern front rest behind : List ℕ) (c : ℕ) → pattern ≡ front ++ rest
      → rest ≡ c ∷ behind → list_any (is_special escape) front ≡ false
      → is_percent escape c ≡ true → behind ≡ []
      → (is_literal_then_percent escape pattern ≡ true)
      × (tokens_of escape pattern ≡ front_tokens front)
  percent_behind pattern front rest behind c e f plain p none =
      let same : pattern ≡ front ++ c ∷ [] = cc in (
        ap (is_literal_then_percent escape) same ∙ percent_front front [] c plain ∙ p,
        ap (tokens_of escape) same ∙ plain_tokens escape front (c ∷ []) plain
            ∙ ap (λ (ts : List Token). map character front ++ ts) (percent_first c [] p),
      )

  pub no_percent_behind : (pattern front rest behind : List ℕ) (c : ℕ) → pattern ≡ front ++ rest
      → rest ≡ c ∷ behind → list_any (is_special escape) front ≡ false → StartsSpecial escape rest
      → (is_percent escape c ≡ true → behind ≡ [] → ⊥)
      → is_literal_then_percent escape pattern ≡ false
  no_percent_behind pattern front rest behind c e f plain special other =
      let same : pattern ≡ front ++ c ∷ behind = cc in
      ap (is_literal_then_percent escape) same ∙ percent_front front behind c plain
      ∙ by behind (subst_head rest f special) other
    where
      subst_head : (rest : List ℕ) → rest ≡ c ∷ behind → StartsSpecial escape rest
          → is_special escape c ≡ true
      subst_head [] f h = cc
      subst_head (x ∷ rest) f h = let same : x ≡ c = cc in ap (is_special escape) (sym same) ∙ h

      by : (behind : List ℕ) → is_special escape c ≡ true
          → (is_percent escape c ≡ true → behind ≡ [] → ⊥)
          → is_literal_then_percent escape (c ∷ behind) ≡ false
      by [] h other = false_from_ne_true (is_percent escape c) (λ p. other p refl)
      by (d ∷ behind) h other = and_left (not (is_special escape c))
          (is_literal_then_percent escape (d ∷ behind)) (ap not h)
