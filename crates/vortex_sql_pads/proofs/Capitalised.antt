-- One more character of a text by capitals, and its end.
use Rattle.std.proofs.Common.{◌≡◌, ℕ, Bool, List, [], ◌∷◌, ◌++◌, ap, sym, ◌∙◌, append_assoc}
use Rattle.std.specs.Prelude.{IsUtf8, chars, encode_utf8_all}
use Rattle.std.specs.Char.{encode_utf8}
use Rattle.std.proofs.lemmas.List.{append-nil}
use Rattle.std.proofs.lemmas.Str.{chars_past_char, chars-nil, encodes-append}
use Rattle.vortex_sql_pads.specs.Capitals.{capitals, is_of_word, letter}

pub one_more : (within : Bool) (c : ℕ) (bs rest made text : List ℕ) → IsUtf8 bs
    → bs ≡ encode_utf8 c ++ rest
    → made ++ encode_utf8_all (capitals within (chars bs)) ≡ text
    → (made ++ encode_utf8_all (letter within c))
    ++ encode_utf8_all (capitals (is_of_word c) (chars rest)) ≡ text
one_more within c bs rest made text u e h =
    append_assoc made (encode_utf8_all (letter within c))
    (encode_utf8_all (capitals (is_of_word c) (chars rest)))
    ∙ ap (λ xs. made ++ xs)
    (sym (encodes-append (letter within c) (capitals (is_of_word c) (chars rest))))
    ∙ ap (λ cs. made ++ encode_utf8_all (capitals within cs)) (sym (chars_past_char bs rest c u e))
    ∙ h

pub ended : (within : Bool) (bs made text : List ℕ) → bs ≡ []
    → made ++ encode_utf8_all (capitals within (chars bs)) ≡ text → made ≡ text
ended within bs made text e h =
    sym (append-nil made)
    ∙ ap (λ cs. made ++ encode_utf8_all (capitals within cs)) (sym (ap chars e ∙ chars-nil))
    ∙ h
