-- A pattern that is read up to its first wildcard.
use Rattle.std.proofs.Common.{◌≡◌, ℕ, Bool, true, false, List, [], ◌∷◌, ◌++◌, map, refl, sym, ap}
use Rattle.std.proofs.Common.{◌∙◌, ◌-◌, Option, length, take, append_assoc, length-append, arith}
use Rattle.std.specs.Prelude.{◌||◌, IsUtf8, encode_utf8, slice_range}
use Rattle.std.specs.Char.{IsScalar}
use Rattle.std.specs.List.{list_any}
use Rattle.std.specs.Str.{chars, IsCharBoundary}
use Rattle.std.proofs.Math.Seq.{take-append_seam}
use Rattle.std.proofs.lemmas.Str.{chars-append, chars_past_char, chars-nil, IsUtf8-encode}
use Rattle.std.proofs.lemmas.Str.{IsUtf8-nil}
use Rattle.std.proofs.lemmas.Str.{IsUtf8-append, IsCharBoundary-at_seam}
use Rattle.std.proofs.lemmas.List.{map-append, append-nil}
use Rattle.vortex_like.specs.Cuts.{is_special, IsPassed}
use Rattle.vortex_like.specs.Tokens.{Token, character}

pub chars_pushed : (bytes pushed : List ℕ) (c : ℕ) → IsUtf8 bytes → IsScalar c
    → pushed ≡ bytes ++ encode_utf8 c → chars pushed ≡ chars bytes ++ c ∷ []
chars_pushed bytes pushed c u s e =
    ap chars e ∙ chars-append bytes (encode_utf8 c) u
    ∙ ap (λ (cs : List ℕ). chars bytes ++ cs)
    (chars_past_char (encode_utf8 c) [] c (IsUtf8-encode c s) (sym (append-nil (encode_utf8 c)))
    ∙ ap (λ (cs : List ℕ). c ∷ cs) chars-nil)

-- one more ordinary character
pub read_more : (tokens : List Token) (front front' : List ℕ) (c : ℕ) (left behind : List Token)
    → tokens ≡ map character front ++ left → left ≡ character c ∷ behind
    → front' ≡ front ++ c ∷ [] → tokens ≡ map character front' ++ behind
read_more tokens front front' c left behind e f g =
    e ∙ ap (λ (ts : List Token). map character front ++ ts) f
    ∙ sym (append_assoc (map character front) (character c ∷ []) behind)
    ∙ ap (λ (ts : List Token). ts ++ behind)
    (sym (ap (λ (cs : List ℕ). map character cs) g ∙ map-append character front (c ∷ [])))

-- a text with no special character is skipped
pub pass_none : (escape : Option ℕ) (pattern : List ℕ) → IsPassed escape pattern pattern
pass_none escape pattern = record {
  front = [];
  utf8 = IsUtf8-nil;
  split = refl;
  plain = ap (list_any (is_special escape)) chars-nil;
}

any_last : (escape : Option ℕ) (cs : List ℕ) (c : ℕ) → list_any (is_special escape) cs ≡ false
    → is_special escape c ≡ false
    → list_any (is_special escape) (cs ++ c ∷ []) ≡ false
any_last escape [] c e f = by (is_special escape c) f
  where
    by : (b : Bool) → b ≡ false → b || false ≡ false
    by true h = cc
    by false h = refl
any_last escape (x ∷ cs) c e f =
    by (is_special escape x) (list_any (is_special escape) cs) (λ h. any_last escape cs c h f) e
  where
    by : (b rest : Bool) → (rest ≡ false → list_any (is_special escape) (cs ++ c ∷ []) ≡ false)
        → b || rest ≡ false → b || list_any (is_special escape) (cs ++ c ∷ []) ≡ false
    by true rest g h = cc
    by false rest g h = g h

pub pass_more : (escape : Option ℕ) (pattern rest behind : List ℕ) (c : ℕ) → IsScalar c
    → is_special escape c ≡ false
    → rest ≡ encode_utf8 c ++ behind → IsPassed escape pattern rest → IsPassed escape pattern behind
pass_more escape pattern rest behind c s e split passed = record {
  front = passed.front ++ encode_utf8 c;
  utf8 = IsUtf8-append passed.front (encode_utf8 c) passed.utf8 (IsUtf8-encode c s);
  split =
      passed.split ∙ ap (λ (bs : List ℕ). passed.front ++ bs) split
      ∙ sym (append_assoc passed.front (encode_utf8 c) behind);
  plain =
      ap (list_any (is_special escape))
      (chars_pushed passed.front (passed.front ++ encode_utf8 c) c passed.utf8 s refl)
      ∙ any_last escape (chars passed.front) c passed.plain e;
}

-- where the pattern may be cut, and what the cut gives
pub cut_seam : (escape : Option ℕ) (pattern rest : List ℕ) → IsUtf8 rest
    → (p : IsPassed escape pattern rest)
    → (length pattern - length rest ≡ length p.front) × IsCharBoundary pattern (length p.front)
    × (slice_range pattern 0 (length p.front) ≡ p.front)
cut_seam escape pattern rest u p = (
  omega (arith, ap (λ (bs : List ℕ). length bs) p.split, length-append p.front rest),
  IsCharBoundary-at_seam pattern p.front rest p.split u,
  ap (λ (n : ℕ). take n pattern) whole
      ∙ ap (λ (bs : List ℕ). take (length p.front) bs) p.split ∙ take-append_seam p.front rest,
)
  where
    whole : length p.front - 0 ≡ length p.front
    whole = omega arith
