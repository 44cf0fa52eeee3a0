-- A text compared with a literal part: equal bytes mean that the tokens match.
use Rattle.std.proofs.Common.{◌≡◌, ℕ, ◌<◌, ◌≤◌, false, List, []}
use Rattle.std.proofs.Common.{◌∷◌, ◌++◌, length, take, drop, get_or, refl, sym, ap, subst, ◌∙◌}
use Rattle.std.proofs.Common.{arith, length-append, ◌⊎◌, inl, inr, eq-eqb}
use Rattle.std.specs.Prelude.{◌↔◌, IsUtf8, encode_utf8_all}
use Rattle.std.specs.Str.{chars}
use Rattle.std.proofs.lemmas.List.{append-nil, take_at, drop_at, get_or_at}
use Rattle.std.proofs.lemmas.Str.{chars-append, encodes-chars, encodes-append, IsUtf8-take}
use Rattle.std.proofs.lemmas.Str.{IsUtf8-drop}
use Rattle.std.proofs.lemmas.Str.{IsCharBoundary-from_take, IsCharBoundary-at_seam}
use Rattle.std.proofs.lemmas.Str.{IsCharBoundary-start, chars-nil}
use Rattle.vortex_like.specs.Tokens.{any, Match}
use Rattle.vortex_like.specs.Shapes.{whole_tokens, front_tokens, end_tokens, inside_tokens}
use Rattle.vortex_like.proofs.Shapes.{literal_start, literal_alone, literal_self}

-- bytes of a text before or after another text
pub utf8_behind : (bytes front rest : List ℕ) → IsUtf8 bytes → IsUtf8 front
    → bytes ≡ front ++ rest → IsUtf8 rest
utf8_behind bytes front rest u f e =
    subst IsUtf8 (ap (λ (bs : List ℕ). drop (length front) bs) e
    ∙ drop_at front rest (length front) refl)
    (IsUtf8-drop bytes (length front) u
    (IsCharBoundary-from_take bytes (length front) u
    (omega (arith, ap (λ (bs : List ℕ). length bs) e, length-append front rest))
    (subst IsUtf8
    (sym (ap (λ (bs : List ℕ). take (length front) bs) e ∙ take_at front rest (length front) refl))
    f)))

pub utf8_before : (bytes front rest : List ℕ) → IsUtf8 bytes → IsUtf8 rest
    → bytes ≡ front ++ rest → IsUtf8 front
utf8_before bytes front rest u r e =
    subst IsUtf8 (ap (λ (bs : List ℕ). take (length front) bs) e
    ∙ take_at front rest (length front) refl)
    (IsUtf8-take bytes (length front) u (IsCharBoundary-at_seam bytes front rest e r))

-- texts of the same characters
pub same_bytes : (xs ys : List ℕ) → IsUtf8 xs → IsUtf8 ys → chars xs ≡ chars ys → xs ≡ ys
same_bytes xs ys u v e =
    sym (encodes-chars xs u) ∙ ap encode_utf8_all e ∙ encodes-chars ys v

-- the bytes of a text that is built from characters
pub parted_bytes : (bytes front : List ℕ) (rest : List ℕ) → IsUtf8 bytes → chars bytes ≡ front ++ rest
    → bytes ≡ encode_utf8_all front ++ encode_utf8_all rest
parted_bytes bytes front rest u e =
    sym (encodes-chars bytes u) ∙ ap encode_utf8_all e ∙ encodes-append front rest

-- what comes before a text that is not empty
utf8_before_lead : (bytes front literal rest : List ℕ) (c : ℕ) (after : List ℕ) → IsUtf8 bytes
    → IsUtf8 literal → literal ≡ c ∷ after → bytes ≡ front ++ (literal ++ rest) → IsUtf8 front
utf8_before_lead bytes front literal rest c after u l some e =
    subst IsUtf8
    (ap (λ (bs : List ℕ). take (length front) bs) e
    ∙ take_at front (literal ++ rest) (length front) refl)
    (IsUtf8-take bytes (length front) u (
      omega (arith, ap (λ (bs : List ℕ). length bs) e, length-append front (literal ++ rest)),
      boundary,
    ))
  where
    lead : get_or bytes (length front) 0 ≡ c
    lead =
        ap (λ (bs : List ℕ). get_or bs (length front) 0)
        (e ∙ ap (λ (bs : List ℕ). front ++ (bs ++ rest)) some)
        ∙ get_or_at front c (after ++ rest) 0 (length front) refl

    own : 128 ≤ c → 192 ≤ c
    own h =
        let start = IsCharBoundary-start literal l in
        let first : get_or literal 0 0 ≡ c = ap (λ (bs : List ℕ). get_or bs 0 0) some in
        let some_byte : 0 < length literal = omega (arith, ap (λ (bs : List ℕ). length bs) some) in
        subst (λ (n : ℕ). 192 ≤ n) first
        (start.1 some_byte (subst (λ (n : ℕ). 128 ≤ n) (sym first) h))

    boundary : length front < length bytes → 128 ≤ get_or bytes (length front) 0
        → 192 ≤ get_or bytes (length front) 0
    boundary lt h =
        subst (λ (n : ℕ). 192 ≤ n) (sym lead) (own (subst (λ (n : ℕ). 128 ≤ n) lead h))

starts_or_nothing : (literal : List ℕ)
    → (literal ≡ []) ⊎ ((c : ℕ) × (after : List ℕ) × (literal ≡ c ∷ after))
starts_or_nothing [] = inl refl
starts_or_nothing (c ∷ after) = inr (c, after, refl)

-- a literal part and the tokens after it
begun : (literal rest : List ℕ) → Match false (front_tokens literal) (literal ++ rest)
begun [] rest = (rest, [], sym (append-nil rest), refl)
begun (c ∷ literal) rest = (c, literal ++ rest, refl, eq-eqb c c refl, begun literal rest)

module _ (literal bytes : List ℕ) (l : IsUtf8 literal) (u : IsUtf8 bytes) where
  pub whole_match : (literal ≡ bytes) ↔ Match false (whole_tokens (chars literal)) (chars bytes)
  whole_match = (
    λ e. subst (λ (cs : List ℕ). Match false (whole_tokens (chars literal)) cs) (ap chars e)
        (literal_self (chars literal)),
    λ m. sym (same_bytes bytes literal u l (literal_alone (chars literal) (chars bytes) m)),
  )

  -- what begins with the literal part
  pub front_match : ((rest : List ℕ) × (bytes ≡ literal ++ rest))
      ↔ Match false (front_tokens (chars literal)) (chars bytes)
  front_match = (
    λ h. subst (λ (cs : List ℕ). Match false (front_tokens (chars literal)) cs)
        (sym (ap chars h.1 ∙ chars-append literal h.0 l)) (begun (chars literal) (chars h.0)),
    λ m.
        let r = literal_start (chars literal) (any ∷ []) (chars bytes) m in (
          encode_utf8_all r.0,
          parted_bytes bytes (chars literal) r.0 u r.1
              ∙ ap (λ (bs : List ℕ). bs ++ encode_utf8_all r.0) (encodes-chars literal l),
        ),
  )

  -- what ends with it
  pub end_match : ((front : List ℕ) × (bytes ≡ front ++ literal))
      ↔ Match false (end_tokens (chars literal)) (chars bytes)
  end_match = (
    λ h. (
      chars h.0,
      chars literal,
      ap chars h.1 ∙ chars-append h.0 literal (utf8_before bytes h.0 literal u l h.1),
      literal_self (chars literal),
    ),
    λ m. (
      encode_utf8_all m.0,
      parted_bytes bytes m.0 m.1 u m.2
          ∙ ap (λ (cs : List ℕ). encode_utf8_all m.0 ++ encode_utf8_all cs)
          (literal_alone (chars literal) m.1 m.3)
          ∙ ap (λ (bs : List ℕ). encode_utf8_all m.0 ++ bs) (encodes-chars literal l),
    ),
  )

  -- what contains it
  pub inside_match : ((front : List ℕ) × (rest : List ℕ) × (bytes ≡ front ++ (literal ++ rest)))
      ↔ Match false (inside_tokens (chars literal)) (chars bytes)
  inside_match = (
    λ h. found h.0 h.1 h.2 (starts_or_nothing literal),
    λ m.
        let r = literal_start (chars literal) (any ∷ []) m.1 m.3 in (
          encode_utf8_all m.0,
          encode_utf8_all r.0,
          parted_bytes bytes m.0 m.1 u m.2
              ∙ ap (λ (cs : List ℕ). encode_utf8_all m.0 ++ encode_utf8_all cs) r.1
              ∙ ap (λ (bs : List ℕ). encode_utf8_all m.0 ++ bs) (encodes-append (chars literal) r.0)
              ∙ ap (λ (bs : List ℕ). encode_utf8_all m.0 ++ (bs ++ encode_utf8_all r.0))
              (encodes-chars literal l),
        ),
  )
    where
      found : (front rest : List ℕ) → bytes ≡ front ++ (literal ++ rest)
          → (literal ≡ []) ⊎ ((c : ℕ) × (after : List ℕ) × (literal ≡ c ∷ after))
          → Match false (inside_tokens (chars literal)) (chars bytes)
      found front rest e (inl none) = (
        [],
        chars bytes,
        refl,
        subst (λ (cs : List ℕ). Match false (front_tokens cs) (chars bytes))
            (sym (ap chars none ∙ chars-nil))
            (chars bytes, [], sym (append-nil (chars bytes)), refl),
      )
      found front rest e (inr some) =
          let front_text : IsUtf8 front = utf8_before_lead bytes front literal rest some.0 some.1 u
          l some.2 e in
          let behind : IsUtf8 (literal ++ rest) =
          utf8_behind bytes front (literal ++ rest) u front_text e in (
            chars front,
            chars (literal ++ rest),
            ap chars e ∙ chars-append front (literal ++ rest) front_text,
            subst (λ (cs : List ℕ). Match false (front_tokens (chars literal)) cs)
                (sym (chars-append literal rest l)) (begun (chars literal) (chars rest)),
          )
