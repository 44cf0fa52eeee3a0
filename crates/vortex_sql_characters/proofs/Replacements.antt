-- What comes in place of a character, and texts in which others came in place.
use Rattle.std.proofs.Common.{◌≡◌, ℕ, List, [], ◌∷◌, ◌++◌, ap, sym, ◌∙◌, append_assoc, cond}
use Rattle.std.proofs.Common.{drop, take}
use Rattle.std.specs.Prelude.{IsUtf8, ◌==◌, chars, encode_utf8_all}
use Rattle.std.specs.Char.{encode_utf8}
use Rattle.std.specs.List.{flat_map}
use Rattle.std.proofs.lemmas.Bool.{eq-eqb, eqb-true, false_from_ne_true}
use Rattle.std.proofs.lemmas.List.{append-nil}
use Rattle.std.proofs.lemmas.Str.{chars_past_char, chars-nil, encodes-append}
use Rattle.vortex_sql_characters.specs.Translations.{replacement}

pub here : (b c : ℕ) (bs rest ds : List ℕ) → IsUtf8 bs → bs ≡ encode_utf8 b ++ rest → b ≡ c
    → replacement (chars bs) ds c ≡ take 1 ds
here b c bs rest ds u e h =
    ap (λ cs. replacement cs ds c) (chars_past_char bs rest b u e)
    ∙ ap (λ t. cond t (take 1 ds) (replacement (chars rest) (drop 1 ds) c)) (eq-eqb b c h)

pub past : (b c : ℕ) (bs rest ds : List ℕ) → IsUtf8 bs → bs ≡ encode_utf8 b ++ rest → ¬ (b ≡ c)
    → replacement (chars bs) ds c ≡ replacement (chars rest) (drop 1 ds) c
past b c bs rest ds u e h =
    ap (λ cs. replacement cs ds c) (chars_past_char bs rest b u e)
    ∙ ap (λ t. cond t (take 1 ds) (replacement (chars rest) (drop 1 ds) c))
    (false_from_ne_true (b == c) (λ k. h (eqb-true b c k)))

pub none_left : (c : ℕ) (bs ds : List ℕ) → bs ≡ [] → replacement (chars bs) ds c ≡ c ∷ []
none_left c bs ds e = ap (λ cs. replacement cs ds c) (ap chars e ∙ chars-nil)

-- f of the next character is added
pub one_more : (f : ℕ → List ℕ) (c : ℕ) (bs rest made text : List ℕ) → IsUtf8 bs
    → bs ≡ encode_utf8 c ++ rest
    → made ++ encode_utf8_all (flat_map f (chars bs)) ≡ text
    → (made ++ encode_utf8_all (f c)) ++ encode_utf8_all (flat_map f (chars rest)) ≡ text
one_more f c bs rest made text u e h =
    append_assoc made (encode_utf8_all (f c)) (encode_utf8_all (flat_map f (chars rest)))
    ∙ ap (λ xs. made ++ xs) (sym (encodes-append (f c) (flat_map f (chars rest))))
    ∙ ap (λ cs. made ++ encode_utf8_all (flat_map f cs)) (sym (chars_past_char bs rest c u e))
    ∙ h

pub ended : (f : ℕ → List ℕ) (bs made text : List ℕ) → bs ≡ []
    → made ++ encode_utf8_all (flat_map f (chars bs)) ≡ text → made ≡ text
ended f bs made text e h =
    sym (append-nil made)
    ∙ ap (λ cs. made ++ encode_utf8_all (flat_map f cs)) (sym (ap chars e ∙ chars-nil))
    ∙ h
