-- A text that tokens match begins with a permitted byte.
use Rattle.std.proofs.Common.{◌≡◌, ◌⊎◌, inl, inr, ℕ, ◌<◌, ◌≤◌, Bool, true, List, []}
use Rattle.std.proofs.Common.{◌∷◌, ◌++◌, length, refl, sym, ap, ◌∙◌, arith}
use Rattle.std.proofs.Common.{length-append}
use Rattle.std.specs.Prelude.{IsUtf8, slice_index, slice_index_or, encode_utf8_all}
use Rattle.std.specs.Char.{encode_utf8}
use Rattle.std.specs.Str.{chars}
use Rattle.std.proofs.lemmas.Bool.{cases_lt, and_parts}
use Rattle.std.proofs.lemmas.List.{get_or_past}
use Rattle.std.proofs.lemmas.Str.{encodes-chars, char_from_byte, length-encode, len_utf8_bounds}
use Rattle.vortex_like.specs.FirstBytes.{admits, AreFirstBytes}
use Rattle.vortex_like.specs.Tokens.{Token, any, one, character, is_match, same_character}

module _ (fold : Bool) where
  first_admitted : (tokens : List Token) (c : ℕ) (text : List ℕ)
      → is_match fold tokens (c ∷ text) ≡ true → admits fold tokens c ≡ true
  first_admitted [] c text e = refl
  first_admitted (any ∷ ts) c text e = refl
  first_admitted (one ∷ ts) c text e = refl
  first_admitted (character own ∷ ts) c text e =
      (and_parts (same_character fold own c) (is_match fold ts text) e).0

  none_admitted : (tokens : List Token) → is_match fold tokens [] ≡ true
      → admits fold tokens 0 ≡ true
  none_admitted [] e = refl
  none_admitted (any ∷ ts) e = refl
  none_admitted (one ∷ ts) e = cc
  none_admitted (character own ∷ ts) e = cc

  module _ (tokens : List Token) (may : List Bool) (h : AreFirstBytes fold tokens may) where
    -- bytes that are not ASCII, and numbers that are no byte, are permitted
    other_may : (b : ℕ) → 128 ≤ b → (b < 256) ⊎ (256 ≤ b) → slice_index_or may b true ≡ true
    other_may b ge (inl lt) = h.others b ge lt
    other_may b ge (inr past) = get_or_past may b true (omega (arith, h.count))

    empty_may : (bytes : List ℕ) → bytes ≡ [] → is_match fold tokens [] ≡ true
        → slice_index_or may (slice_index bytes 0) true ≡ true
    empty_may bytes none e =
        ap (λ (bs : List ℕ). slice_index_or may (slice_index bs 0) true) none
        ∙ h.ascii 0 (omega arith) ∙ none_admitted tokens e

    some_may : (bytes : List ℕ) (c : ℕ) (text : List ℕ)
        → bytes ≡ encode_utf8 c ++ encode_utf8_all text → is_match fold tokens (c ∷ text) ≡ true
        → (slice_index bytes 0 < 128) ⊎ (128 ≤ slice_index bytes 0)
        → slice_index_or may (slice_index bytes 0) true ≡ true
    some_may bytes c text parts e (inr ge) =
        other_may (slice_index bytes 0) ge (cases_lt (slice_index bytes 0) 256)
    some_may bytes c text parts e (inl lt) =
        let some : 0 < length bytes = omega (
          arith,
          ap (λ (bs : List ℕ). length bs) parts,
          length-append (encode_utf8 c) (encode_utf8_all text),
          length-encode c,
          (len_utf8_bounds c).0,
        ) in
        let same : c ≡ slice_index bytes 0 =
        char_from_byte bytes (encode_utf8_all text) c parts lt some in
        h.ascii (slice_index bytes 0) lt
        ∙ ap (λ (d : ℕ). admits fold tokens d) (sym same) ∙ first_admitted tokens c text e

    by_text : (bytes text : List ℕ) → bytes ≡ encode_utf8_all text
        → is_match fold tokens text ≡ true
        → slice_index_or may (slice_index bytes 0) true ≡ true
    by_text bytes [] parts e = empty_may bytes parts e
    by_text bytes (c ∷ text) parts e =
        some_may bytes c text parts e (cases_lt (slice_index bytes 0) 128)

    pub first_needed : (bytes : List ℕ) → IsUtf8 bytes
        → is_match fold tokens (chars bytes) ≡ true
        → slice_index_or may (slice_index bytes 0) true ≡ true
    first_needed bytes u e = by_text bytes (chars bytes) (sym (encodes-chars bytes u)) e
