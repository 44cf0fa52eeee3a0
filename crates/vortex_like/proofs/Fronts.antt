-- A text that a pattern matches begins with the pattern's characters before the first special one,
-- and ends with those after the last.
use Rattle.std.proofs.Common.{◌≡◌, ℕ, true, false, List, [], ◌∷◌, ◌++◌, map, ap, ◌∙◌, subst, refl}
use Rattle.std.proofs.Common.{sym, append_assoc}
use Rattle.std.specs.Prelude.{IsUtf8, nat_eq, encode_utf8_all, Option}
use Rattle.std.specs.List.{starts_with, ends_with}
use Rattle.std.specs.Str.{chars}
use Rattle.std.proofs.lemmas.Bool.Decides.{Decides-eqb}
use Rattle.std.proofs.lemmas.List.{append-nil}
use Rattle.std.proofs.lemmas.Slice.Eq.{starts_is, ends_is}
use Rattle.std.proofs.lemmas.Str.{encodes-chars}
use Rattle.vortex_like.specs.Fronts.{IsNeeded, IsNeededEnd, IsLastPart}
use Rattle.vortex_like.specs.Tokens.{Token, any, one, character, tokens_of, Match}
use Rattle.vortex_like.specs.Cuts.{IsCutOf}
use Rattle.vortex_like.specs.declared.cuts.Cut.{Cut}
use Rattle.vortex_like.proofs.Literals.{parted_bytes, end_match}
use Rattle.vortex_like.proofs.Shapes.{literal_start, plain_tokens}
use Rattle.vortex_like.proofs.Testing.{match_tested}

-- tokens that begin with a literal part
literal_needed : (literal : List ℕ) (rest : List Token) → IsUtf8 literal
    → IsNeeded false (map character (chars literal) ++ rest) literal
literal_needed literal rest l bytes u e =
    let m = match_tested false (map character (chars literal) ++ rest) (chars bytes) e in
    let r = literal_start (chars literal) rest (chars bytes) m in
    let told = starts_is Decides-eqb bytes literal (starts_with nat_eq bytes literal) refl in
    told.1 (encode_utf8_all r.0)
    (parted_bytes bytes (chars literal) r.0 u r.1
    ∙ ap (λ (bs : List ℕ). bs ++ encode_utf8_all r.0) (encodes-chars literal l))

pub front_needed : (escape : Option ℕ) (pattern : List ℕ) (cut : Cut) → IsUtf8 cut.front.now
    → IsCutOf escape pattern cut → IsNeeded false (tokens_of escape pattern) cut.front.now
front_needed escape pattern cut u h =
    subst (λ (ts : List Token). IsNeeded false ts cut.front.now)
    (sym
    (ap (tokens_of escape) h.split
    ∙ plain_tokens escape (chars cut.front.now) (chars cut.rest.now) h.plain))
    (literal_needed cut.front.now (tokens_of escape (chars cut.rest.now)) u)

-- what tokens match ends with what the last of them match
behind_any : (before rest : List Token) (text : List ℕ) → Match false (before ++ rest) text
    → Match false (any ∷ rest) text
behind_any [] rest text m = ([], text, refl, m)
behind_any (any ∷ before) rest text m =
    let r = behind_any before rest m.1 m.3 in (
      m.0 ++ r.0,
      r.1,
      m.2 ∙ ap (λ (cs : List ℕ). m.0 ++ cs) r.2 ∙ sym (append_assoc m.0 r.0 r.1),
      r.3,
    )
behind_any (one ∷ before) rest text m =
    let r = behind_any before rest m.1 m.3 in
    (m.0 ∷ r.0, r.1, m.2 ∙ ap (λ (cs : List ℕ). m.0 ∷ cs) r.2, r.3)
behind_any (character c ∷ before) rest text m =
    let r = behind_any before rest m.1 m.4 in
    (m.0 ∷ r.0, r.1, m.2 ∙ ap (λ (cs : List ℕ). m.0 ∷ cs) r.2, r.3)

ends : (bytes end front : List ℕ) → bytes ≡ front ++ end → ends_with nat_eq bytes end ≡ true
ends bytes end front e =
    let told = ends_is Decides-eqb bytes end (ends_with nat_eq bytes end) refl in told.1 front e

pub no_end : (bytes : List ℕ) → ends_with nat_eq bytes [] ≡ true
no_end bytes = ends bytes [] bytes (sym (append-nil bytes))

pub end_needed : (escape : Option ℕ) (pattern end : List ℕ) → IsUtf8 end
    → IsLastPart escape pattern (chars end) → IsNeededEnd false (tokens_of escape pattern) end
end_needed escape pattern end l h bytes u e =
    let last : List Token = map character (chars end) in
    let m =
    subst (λ (ts : List Token). Match false ts (chars bytes)) h.1
    (match_tested false (tokens_of escape pattern) (chars bytes) e) in
    let match = end_match end bytes l u in
    let parts = match.1 (behind_any h.0 last (chars bytes) m) in
    ends bytes end parts.0 parts.1

module _ (escape : Option ℕ) (pattern rest : List ℕ) (before : List Token) (cut : Cut)
    (h : tokens_of escape pattern ≡ before ++ tokens_of escape rest) (k : IsCutOf escape rest cut)
  where
    abbrev front : List ℕ
    front = chars cut.front.now

    cut_tokens : tokens_of escape pattern
        ≡ before ++ (map character front ++ tokens_of escape (chars cut.rest.now))
    cut_tokens =
        h
        ∙ ap (λ (ts : List Token). before ++ ts)
        (ap (tokens_of escape) k.split ∙ plain_tokens escape front (chars cut.rest.now) k.plain)

    -- the text before the first special character is the last part, if there is no other
    pub last_alone : chars cut.rest.now ≡ [] → IsLastPart escape pattern front
    last_alone none = (
      before,
      cut_tokens
          ∙ ap (λ (cs : List ℕ). before ++ (map character front ++ tokens_of escape cs)) none
          ∙ ap (λ (ts : List Token). before ++ ts) (append-nil (map character front)),
    )

    -- else the tokens continue after the first special one
    pub last_behind : (t : Token) (behind : List ℕ)
        → tokens_of escape (chars cut.rest.now) ≡ t ∷ tokens_of escape behind
        → (more : List Token) × (tokens_of escape pattern ≡ more ++ tokens_of escape behind)
    last_behind t behind e = (
      before ++ (map character front ++ t ∷ []),
      cut_tokens
          ∙ ap (λ (ts : List Token). before ++ (map character front ++ ts)) e
          ∙ ap (λ (ts : List Token). before ++ ts)
          (sym (append_assoc (map character front) (t ∷ []) (tokens_of escape behind)))
          ∙ sym (append_assoc before (map character front ++ t ∷ []) (tokens_of escape behind)),
    )
