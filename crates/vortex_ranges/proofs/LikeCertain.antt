-- Patterns that each text between two ends matches.
use Rattle.std.specs.Prelude.{◌≡◌, ◌++◌, ℕ, List, [], ◌∷◌, true, false, Option, IsUtf8, refl}
use Rattle.std.specs.Str.{chars}
use Rattle.std.proofs.Common.{map, ap, sym, subst, ◌∙◌, eq-eqb}
use Rattle.std.proofs.lemmas.List.{append-nil}
use Rattle.std.proofs.lemmas.Str.{chars-append}
use Rattle.vortex_like.specs.declared.options.LikeOptions.{LikeOptions}
use Rattle.vortex_like.specs.Tokens.{Token, any, one, character, tokens_of, Match}
use Rattle.vortex_like.specs.Variants.{AreLiteral, AreLiteralThenWildcard}
use Rattle.vortex_like.proofs.Shapes.{literal_self}
use Rattle.vortex_like.proofs.Testing.{test_matched}
use Rattle.vortex_ranges.specs.Ranges.{RangeView}
use Rattle.vortex_ranges.specs.Prefixes.{shares_prefix, IsOnlyText, AllAreLike, AllMatch, matches}
use Rattle.vortex_ranges.proofs.PrefixOrder.{shared}

nothing_after : (before after : List ℕ) → [] ≡ before ++ after → after ≡ []
nothing_after [] after e = sym e
nothing_after (c ∷ before) after e = cc

same_tail : (c d : ℕ) (cs ds : List ℕ) → c ∷ cs ≡ d ∷ ds → ds ≡ cs
same_tail c d cs ds e = cc

-- tokens that match the empty text match each one, if there is a token
matches_each : (t : Token) (ts : List Token) (cs : List ℕ) → Match false (t ∷ ts) []
    → Match false (t ∷ ts) cs
matches_each any [] cs m = (cs, [], sym (append-nil cs), refl)
matches_each any (t ∷ ts) cs m = (
  [],
  cs,
  refl,
  matches_each t ts cs
      (subst (λ (ds : List ℕ). Match false (t ∷ ts) ds) (nothing_after m.0 m.1 m.2) m.3),
)
matches_each one ts cs m = let never : [] ≡ m.0 ∷ m.1 = m.2 in cc
matches_each (character c) ts cs m = let never : [] ≡ m.0 ∷ m.1 = m.2 in cc

-- so tokens that match the literal at their front match each text that begins with it
extended : (prefix rest : List ℕ) (t : Token) (ts : List Token)
    → Match false (map character prefix ++ t ∷ ts) prefix
    → Match false (map character prefix ++ t ∷ ts) (prefix ++ rest)
extended [] rest t ts m = matches_each t ts rest m
extended (c ∷ prefix) rest t ts m = (
  c,
  prefix ++ rest,
  refl,
  eq-eqb c c refl,
  extended prefix rest t ts
      (subst (λ (cs : List ℕ). Match false (map character prefix ++ t ∷ ts) cs)
      (same_tail c m.0 prefix m.1 m.2) m.4),
)

pub begun : (tokens : List Token) (prefix rest : List ℕ) → AreLiteralThenWildcard tokens prefix
    → Match false tokens prefix → Match false tokens (prefix ++ rest)
begun tokens prefix rest h m =
    subst (λ (ts : List Token). Match false ts (prefix ++ rest)) (sym h.3)
    (extended prefix rest h.0 h.1 (subst (λ (ts : List Token). Match false ts prefix) h.3 m))

module _ (escape : Option ℕ) (r : RangeView) (pattern : List ℕ) where
  pub all_begin : (prefix : List ℕ) → IsUtf8 prefix
      → AreLiteralThenWildcard (tokens_of escape (chars pattern)) (chars prefix)
      → shares_prefix r prefix ≡ true
      → Match false (tokens_of escape (chars pattern)) (chars prefix)
      → AllAreLike escape r pattern
  all_begin prefix p h e m bytes u a =
      let s = shared r prefix bytes e a in
      subst (λ (cs : List ℕ). Match false (tokens_of escape (chars pattern)) cs)
      (sym (ap chars s.1 ∙ chars-append prefix s.0 p))
      (begun (tokens_of escape (chars pattern)) (chars prefix) (chars s.0) h m)

  pub all_equal : (exact : List ℕ) → AreLiteral (tokens_of escape (chars pattern)) (chars exact)
      → IsOnlyText r exact → AllAreLike escape r pattern
  all_equal exact h only bytes u a =
      subst (λ (bs : List ℕ). Match false (tokens_of escape (chars pattern)) (chars bs))
      (sym (only bytes a))
      (subst (λ (ts : List Token). Match false ts (chars exact)) (sym h)
      (literal_self (chars exact)))

  -- of a pattern that begins with a wildcard
  pub all_any : AreLiteralThenWildcard (tokens_of escape (chars pattern)) []
      → Match false (tokens_of escape (chars pattern)) [] → AllAreLike escape r pattern
  all_any h m bytes u a = begun (tokens_of escape (chars pattern)) [] (chars bytes) h m

-- of a pattern that is known
pub all_match : (options : LikeOptions) (r s : RangeView) (known : List ℕ)
    → options.case_insensitive ≡ false → IsOnlyText s known → AllAreLike options.escape r known
    → AllMatch options r s
all_match options r s known plain only all bytes pattern u w a d =
    subst (λ (bs : List ℕ). matches options bytes bs ≡ true) (sym (only pattern d))
    (test_matched options.case_insensitive (tokens_of options.escape (chars known)) (chars bytes)
    (subst (λ b. Match b (tokens_of options.escape (chars known)) (chars bytes)) (sym plain)
    (all bytes u a)))
