-- The tokens of patterns of simple shapes, and what such patterns match.
use Rattle.std.proofs.Common.{◌≡◌, ℕ, Bool, true, false, List, [], ◌∷◌, ◌++◌, map, refl, sym}
use Rattle.std.proofs.Common.{ap}
use Rattle.std.proofs.Common.{◌∙◌, arith, cond, eq-eqb, Option, Some, None}
use Rattle.std.proofs.lemmas.List.{append-nil, nil_from_length}
use Rattle.std.proofs.lemmas.Str.{chars-nil, encodes-chars}
use Rattle.std.proofs.Common.{length, subst}
use Rattle.std.specs.Prelude.{◌||◌, ◌==◌, not, IsUtf8, encode_utf8_all}
use Rattle.std.specs.List.{list_any}
use Rattle.std.specs.Str.{chars}
use Rattle.std.specs.Cow.{cow_str_bytes}
use Rattle.vortex_like.specs.Cuts.{is_special, StartsSpecial}
use Rattle.vortex_like.specs.Tokens.{Token, any, one, character, tokens_of, plain_token, Match}
use Rattle.vortex_like.specs.Tokens.{percent, underscore, is_escape, same_character}
use Rattle.vortex_like.specs.Variants.{is_wildcard, meets_escape, AreLiteralThenWildcard}
use Rattle.vortex_like.specs.Variants.{IsVariantOf, TellsMatches}
use Rattle.vortex_like.specs.declared.variant.LikeVariant.{LikeVariant}
use Rattle.vortex_like.specs.declared.variant.LikeVariant.TheVariants.{Exact, Prefix}

-- the three tests of a character that is not special
pub record IsPlain (escape : Option ℕ) (c : ℕ) : Type 0 where
  pub no_escape : is_escape escape c ≡ false
  pub no_wildcard : (c == percent || c == underscore) ≡ false
  pub own : plain_token c ≡ character c

module _ (escape : Option ℕ) where
  -- a character that is not the escape escapes none
  pub unescaped_first : (c : ℕ) (rest : List ℕ) → is_escape escape c ≡ false
      → tokens_of escape (c ∷ rest) ≡ plain_token c ∷ tokens_of escape rest
  unescaped_first c [] e =
      ap (λ (b : Bool). cond b (character c) (plain_token c) ∷ []) e
  unescaped_first c (d ∷ rest) e =
      ap
      (λ (b : Bool).
      cond b (character d ∷ tokens_of escape rest) (plain_token c ∷ tokens_of escape (d ∷ rest)))
      e

  pub plain_is : (c : ℕ) → is_special escape c ≡ false → IsPlain escape c
  plain_is c e = by (is_escape escape c) (c == percent) (c == underscore) refl refl refl e
    where
      by : (b p u : Bool) → (is_escape escape c) ≡ b → (c == percent) ≡ p → (c == underscore) ≡ u
          → b || (p || u) ≡ false → IsPlain escape c
      by true p u x y z h = cc
      by false true u x y z h = cc
      by false false true x y z h = cc
      by false false false x y z h = record {
        no_escape = x;
        no_wildcard =
            ap (λ (q : Bool). q || (c == underscore)) y ∙ z;
        own =
            ap (λ (q : Bool). cond q any (cond (c == underscore) one (character c))) y
            ∙ ap (λ (q : Bool). cond q one (character c)) z;
      }

  -- a wildcard: special, and no backslash
  pub wildcard_is : (c : ℕ) → is_special escape c ≡ true → (is_escape escape c) ≡ false
      → is_wildcard (plain_token c) ≡ true
  wildcard_is c e f = by (c == percent) (c == underscore)
      (ap (λ (b : Bool). b || (c == percent || c == underscore)) (sym f) ∙ e)
    where
      by : (p u : Bool) → p || u ≡ true
          → is_wildcard (cond p any (cond u one (character c))) ≡ true
      by true u h = refl
      by false true h = refl
      by false false h = cc

  head_plain : (c : ℕ) (cs : List ℕ) → list_any (is_special escape) (c ∷ cs) ≡ false
      → is_special escape c ≡ false
  head_plain c cs e = by (is_special escape c) (list_any (is_special escape) cs) e
    where
      by : (b r : Bool) → b || r ≡ false → b ≡ false
      by true r h = h
      by false r h = refl

  tail_plain : (c : ℕ) (cs : List ℕ) → list_any (is_special escape) (c ∷ cs) ≡ false
      → list_any (is_special escape) cs ≡ false
  tail_plain c cs e = by (is_special escape c) (list_any (is_special escape) cs) e
    where
      by : (b r : Bool) → b || r ≡ false → r ≡ false
      by true r h = cc
      by false r h = h

  -- after a prefix with no special character
  pub plain_tokens : (front rest : List ℕ) → list_any (is_special escape) front ≡ false
      → tokens_of escape (front ++ rest) ≡ map character front ++ tokens_of escape rest
  plain_tokens [] rest e = refl
  plain_tokens (c ∷ front) rest e =
      let plain = plain_is c (head_plain c front e) in
      unescaped_first c (front ++ rest) plain.no_escape
      ∙ ap (λ (t : Token). t ∷ tokens_of escape (front ++ rest)) plain.own
      ∙ ap (λ (ts : List Token). character c ∷ ts)
      (plain_tokens front rest (tail_plain c front e))

  pub plain_escape : (front rest : List ℕ) → list_any (is_special escape) front ≡ false
      → meets_escape escape (front ++ rest) ≡ meets_escape escape rest
  plain_escape [] rest e = refl
  plain_escape (c ∷ front) rest e =
      let plain = plain_is c (head_plain c front e) in
      ap
      (λ (b : Bool).
      cond b true
      (cond (c == percent || c == underscore) false (meets_escape escape (front ++ rest))))
      plain.no_escape
      ∙ ap (λ (b : Bool). cond b false (meets_escape escape (front ++ rest))) plain.no_wildcard
      ∙ plain_escape front rest (tail_plain c front e)

  -- a pattern with no special character
  pub whole_literal : (pattern front rest : List ℕ) → pattern ≡ front ++ rest → rest ≡ []
      → list_any (is_special escape) front ≡ false
      → (tokens_of escape pattern ≡ map character front)
      × (true ≡ not (meets_escape escape pattern))
  whole_literal pattern front rest e f plain =
      let same : pattern ≡ front ++ [] = e ∙ ap (λ (cs : List ℕ). front ++ cs) f in (
        ap (tokens_of escape) same ∙ plain_tokens front [] plain ∙ append-nil (map character front),
        ap not (sym (ap (meets_escape escape) same ∙ plain_escape front [] plain)),
      )

  pub escape_met : (pattern front rest after : List ℕ) (c : ℕ) → pattern ≡ front ++ rest
      → rest ≡ c ∷ after → list_any (is_special escape) front ≡ false → is_escape escape c ≡ true
      → meets_escape escape pattern ≡ true
  escape_met pattern front rest after c e f plain q =
      ap (meets_escape escape) e ∙ plain_escape front rest plain ∙ ap (meets_escape escape) f
      ∙ ap
      (λ (b : Bool).
      cond b true (cond (c == percent || c == underscore) false (meets_escape escape after)))
      q

  special_head : (rest after : List ℕ) (c : ℕ) → rest ≡ c ∷ after → StartsSpecial escape rest
      → is_special escape c ≡ true
  special_head rest after c e h = subst (λ (cs : List ℕ). StartsSpecial escape cs) e h

  -- a pattern with a wildcard before any backslash
  pub literal_then_wildcard : (pattern front rest after : List ℕ) (c : ℕ)
      → pattern ≡ front ++ rest → rest ≡ c ∷ after → list_any (is_special escape) front ≡ false
      → StartsSpecial escape rest → is_escape escape c ≡ false
      → AreLiteralThenWildcard (tokens_of escape pattern) front
      × (true ≡ not (meets_escape escape pattern))
  literal_then_wildcard pattern front rest after c e f plain special n =
      let no_escape = n in
      let wild = wildcard_is c (special_head rest after c f special) no_escape in (
        (
          plain_token c,
          tokens_of escape after,
          wild,
          ap (tokens_of escape) e ∙ plain_tokens front rest plain
              ∙ ap (λ (ts : List Token). map character front ++ ts)
              (ap (tokens_of escape) f ∙ unescaped_first c after no_escape),
        ),
        ap not
            (sym
            (ap (meets_escape escape) e ∙ plain_escape front rest plain ∙ ap (meets_escape escape) f
            ∙ ap
            (λ (b : Bool).
            cond b true (cond (c == percent || c == underscore) false (meets_escape escape after)))
            no_escape
            ∙ ends (c == percent || c == underscore) (meets_escape escape after)
            (wild_test no_escape))),
      )
    where
      wild_test : (is_escape escape c) ≡ false → (c == percent || c == underscore) ≡ true
      wild_test h =
          ap (λ (b : Bool). b || (c == percent || c == underscore)) (sym h)
          ∙ special_head rest after c f special

      ends : (b m : Bool) → b ≡ true → cond b false m ≡ false
      ends true m h = refl
      ends false m h = cc

pub empty_text : (bytes : List ℕ) → length bytes ≡ 0 → chars bytes ≡ []
empty_text bytes e = ap chars (nil_from_length bytes e) ∙ chars-nil

pub no_empty_text : (bytes : List ℕ) → IsUtf8 bytes → chars bytes ≡ [] → length bytes ≡ 0
no_empty_text bytes u e =
    ap (λ (bs : List ℕ). length bs) (sym (encodes-chars bytes u) ∙ ap encode_utf8_all e)

-- a literal is matched only by its own text, and literal and `%` by texts that begin with it
module _ where
  same_is : (c d : ℕ) → same_character false c d ≡ true → c ≡ d
  same_is c d e = grind arith

  pub literal_start : (text : List ℕ) (rest : List Token) (matched : List ℕ)
      → Match false (map character text ++ rest) matched
      → (after : List ℕ) × (matched ≡ text ++ after) × Match false rest after
  literal_start [] rest matched m = (matched, refl, m)
  literal_start (c ∷ text) rest matched m =
      let r = literal_start text rest m.1 m.4 in (
        r.0,
        m.2 ∙ ap (λ (d : ℕ). d ∷ m.1) (sym (same_is c m.0 m.3))
            ∙ ap (λ (cs : List ℕ). c ∷ cs) r.1,
        r.2,
      )

  pub literal_alone : (text matched : List ℕ) → Match false (map character text) matched
      → matched ≡ text
  literal_alone [] matched m = m
  literal_alone (c ∷ text) matched m =
      m.2 ∙ ap (λ (d : ℕ). d ∷ m.1) (sym (same_is c m.0 m.3))
      ∙ ap (λ (cs : List ℕ). c ∷ cs) (literal_alone text m.1 m.4)

  pub literal_self : (text : List ℕ) → Match false (map character text) text
  literal_self [] = refl
  literal_self (c ∷ text) = (c, text, refl, eq-eqb c c refl, literal_self text)

pub tells_matches : (escape : Option ℕ) (pattern : List ℕ) (v : Option LikeVariant)
    → IsVariantOf escape pattern v → TellsMatches escape pattern v
tells_matches escape pattern None h = tt
tells_matches escape pattern (Some (Exact text)) h = λ matched. (
  λ m. literal_alone (chars (cow_str_bytes text)) matched
      (subst (λ (ts : List Token). Match false ts matched) h.0 m),
  λ e. subst (λ (ts : List Token). Match false ts matched) (sym h.0)
      (subst (λ (cs : List ℕ). Match false (map character (chars (cow_str_bytes text))) cs) (sym e)
      (literal_self (chars (cow_str_bytes text)))),
)
tells_matches escape pattern (Some (Prefix text)) h = λ matched m.
    let r =
    literal_start (chars (cow_str_bytes text)) (h.0.0 ∷ h.0.1) matched
    (subst (λ (ts : List Token). Match false ts matched) h.0.3 m) in
    (r.0, r.1)
