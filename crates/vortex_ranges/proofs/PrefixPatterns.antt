-- Patterns of a prefix and `%`: which variant they have, and which texts they match.
use Rattle.std.specs.Prelude.{◌≡◌, ◌≢◌, ◌++◌, ◌&&◌, ℕ, List, [], ◌∷◌, Bool, true, false, not}
use Rattle.std.specs.Prelude.{Option, Some, None, IsUtf8, nat_eq, refl, encode_utf8_all}
use Rattle.std.specs.Cow.{cow_str_bytes}
use Rattle.std.specs.List.{starts_with}
use Rattle.std.specs.Str.{chars}
use Rattle.std.proofs.Common.{map, ap, sym, subst, ◌∙◌, eq-eqb, drop, length}
use Rattle.std.proofs.lemmas.Bool.Decides.{Decides-eqb}
use Rattle.std.proofs.lemmas.Slice.Eq.{starts_is}
use Rattle.std.proofs.lemmas.Str.{chars-append, chars-nil, encodes-chars, IsUtf8-nil}
use Rattle.vortex_like.specs.declared.variant.LikeVariant.{LikeVariant}
use Rattle.vortex_like.specs.declared.variant.LikeVariant.TheVariants.{Exact, Prefix}
use Rattle.vortex_like.specs.Tokens.{Token, any, character, tokens_of, same_character}
use Rattle.vortex_like.specs.Tokens.{is_match, Match}
use Rattle.vortex_like.specs.Variants.{is_wildcard, AreLiteralThenWildcard, IsVariantOf}
use Rattle.vortex_like.proofs.Literals.{parted_bytes, same_bytes}
use Rattle.vortex_like.proofs.Shapes.{literal_start}
use Rattle.vortex_like.proofs.Testing.{match_tested, test_matched}
use Rattle.vortex_ranges.specs.Prefixes.{excludes_prefix, shares_prefix, IsPrefixPattern}
use Rattle.vortex_ranges.specs.PrefixTests.{TellsBegun, TellsShared}
use Rattle.vortex_ranges.specs.Ranges.{RangeView}
use Rattle.vortex_ranges.proofs.LikeCertain.{begun}
use Rattle.vortex_ranges.proofs.Tests.{both}

-- tokens that are characters up to a wildcard are so in one way
same_literal : (cs ds : List ℕ) (w : Token) (rest : List Token) → is_wildcard w ≡ true
    → map character cs ++ w ∷ rest ≡ map character ds ++ any ∷ [] → cs ≡ ds
same_literal [] [] w rest h e = refl
same_literal [] (d ∷ ds) w rest h e =
    let is : w ≡ character d = cc in
    let never : true ≡ false = sym h ∙ ap is_wildcard is in
    cc
same_literal (c ∷ cs) [] w rest h e = cc
same_literal (c ∷ cs) (d ∷ ds) w rest h e =
    let head : c ≡ d = cc in
    let tail : map character cs ++ w ∷ rest ≡ map character ds ++ any ∷ [] = cc in
    let others = same_literal cs ds w rest h tail in
    ap (λ (x : ℕ). x ∷ cs) head ∙ ap (λ (xs : List ℕ). d ∷ xs) others

no_literal : (cs ds : List ℕ) → map character cs ≡ map character ds ++ any ∷ [] → ⊥
no_literal [] [] e = cc
no_literal [] (d ∷ ds) e = cc
no_literal (c ∷ cs) [] e = cc
no_literal (c ∷ cs) (d ∷ ds) e =
    let tail : map character cs ≡ map character ds ++ any ∷ [] = cc in no_literal cs ds tail

pub no_empty : (prefix : List ℕ) → IsUtf8 prefix → prefix ≢ [] → [] ≡ chars prefix → ⊥
no_empty prefix u some e =
    some (same_bytes prefix [] u IsUtf8-nil (sym e ∙ sym chars-nil))

-- the variant is a prefix of these characters
abbrev pub IsPrefixOf : List ℕ → Option LikeVariant → Type 0
IsPrefixOf cs None = ⊥
IsPrefixOf cs (Some (Exact text)) = ⊥
IsPrefixOf cs (Some (Prefix text)) = chars (cow_str_bytes text) ≡ cs

module _ (escape : Option ℕ) (pattern prefix : List ℕ) (u : IsUtf8 prefix)
    (h : IsPrefixPattern escape pattern prefix) where
  pub prefix_variant : (v : Option LikeVariant) → IsVariantOf escape (chars pattern) v
      → IsPrefixOf (chars prefix) v
  prefix_variant None e =
      no_empty prefix u h.0 (same_literal [] (chars prefix) e.0 e.1 e.2 (sym e.3 ∙ h.1))
  prefix_variant (Some (Exact text)) e =
      no_literal (chars (cow_str_bytes text)) (chars prefix) (sym e.0 ∙ h.1)
  prefix_variant (Some (Prefix text)) e =
      same_literal (chars (cow_str_bytes text)) (chars prefix) e.0.0 e.0.1 e.0.2 (sym e.0.3 ∙ h.1)

  -- so what is told of the variant is told of the pattern
  pub told_of_variant : (r : RangeView) (v : LikeVariant) (a b : Bool)
      → IsVariantOf escape (chars pattern) (Some v) → TellsBegun r v a
      → TellsShared escape r pattern v b
      → (a ≡ not (excludes_prefix r prefix)) × (b ≡ shares_prefix r prefix)
  told_of_variant r (Exact text) a b e p q = absurd (prefix_variant (Some (Exact text)) e)
  told_of_variant r (Prefix text) a b e p q =
      let is = prefix_variant (Some (Prefix text)) e in (p prefix u is, q prefix u is h)

-- the prefix itself matches
itself_matches : (cs : List ℕ) → is_match false (map character cs ++ any ∷ []) cs ≡ true
itself_matches [] = refl
itself_matches (c ∷ cs) =
    both (same_character false c c) (is_match false (map character cs ++ any ∷ []) cs)
    (eq-eqb c c refl) (itself_matches cs)

module _ (escape : Option ℕ) (pattern prefix : List ℕ) (u : IsUtf8 prefix)
    (h : IsPrefixPattern escape pattern prefix) where
  pub prefix_itself : is_match false (tokens_of escape (chars pattern)) (chars prefix) ≡ true
  prefix_itself =
      subst (λ (ts : List Token). is_match false ts (chars prefix) ≡ true) (sym h.1)
      (itself_matches (chars prefix))

  wild : AreLiteralThenWildcard (tokens_of escape (chars pattern)) (chars prefix)
  wild = (any, [], refl, h.1)

  -- a text matches exactly where it begins with the prefix
  module _ (bytes : List ℕ) (w : IsUtf8 bytes) where
    abbrev matched : Bool
    matched = is_match false (tokens_of escape (chars pattern)) (chars bytes)

    abbrev starts : Bool
    starts = starts_with nat_eq bytes prefix

    if_starts : starts ≡ true → matched ≡ true
    if_starts e =
        let rest = drop (length prefix) bytes in
        let is : bytes ≡ prefix ++ rest = (starts_is Decides-eqb bytes prefix starts refl).0 e in
        let own =
        match_tested false (tokens_of escape (chars pattern)) (chars prefix) prefix_itself in
        test_matched false (tokens_of escape (chars pattern)) (chars bytes)
        (subst (λ (cs : List ℕ). Match false (tokens_of escape (chars pattern)) cs)
        (sym (ap chars is ∙ chars-append prefix rest u))
        (begun (tokens_of escape (chars pattern)) (chars prefix) (chars rest) wild own))

    if_matched : matched ≡ true → starts ≡ true
    if_matched e =
        let parts =
        literal_start (chars prefix) (any ∷ []) (chars bytes)
        (subst (λ (ts : List Token). Match false ts (chars bytes)) h.1
        (match_tested false (tokens_of escape (chars pattern)) (chars bytes) e)) in
        let is : bytes ≡ prefix ++ encode_utf8_all parts.0 =
        parted_bytes bytes (chars prefix) parts.0 w parts.1
        ∙ ap (λ (bs : List ℕ). bs ++ encode_utf8_all parts.0) (encodes-chars prefix u) in
        (starts_is Decides-eqb bytes prefix starts refl).1 (encode_utf8_all parts.0) is

    same_truth : (a b : Bool) → (a ≡ true → b ≡ true) → (b ≡ true → a ≡ true) → a ≡ b
    same_truth true b f g = sym (f refl)
    same_truth false true f g = g refl
    same_truth false false f g = refl

    pub prefix_matched : is_match false (tokens_of escape (chars pattern)) (chars bytes)
        ≡ starts_with nat_eq bytes prefix
    prefix_matched = same_truth matched starts if_matched if_starts
