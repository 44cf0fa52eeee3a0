-- Counts that are past the end of a text.
use Rattle.std.proofs.Common.{◌≡◌, ◌≤◌, ℕ, List, ap, sym, ◌∙◌, arith, length, subst}
use Rattle.std.specs.Prelude.{IsUtf8, chars, encode_utf8_all}
use Rattle.std.proofs.lemmas.List.{drop_all, take_all}
use Rattle.std.proofs.lemmas.Str.{encodes-chars, length-le-encodes}
use Rattle.vortex_sql_texts.specs.Characters.{after_chars, first_chars}

-- a text has at most as many characters as bytes
fewer : (bs : List ℕ) → IsUtf8 bs → length (chars bs) ≤ length bs
fewer bs u =
    subst (λ ds. length (chars bs) ≤ length ds) (encodes-chars bs u) (length-le-encodes (chars bs))

pub same_first : (n m : ℕ) (bs : List ℕ) → IsUtf8 bs → length bs ≤ n → length bs ≤ m
    → first_chars n bs ≡ first_chars m bs
same_first n m bs u h k =
    let few = fewer bs u in
    ap encode_utf8_all
    (take_all n (chars bs) (omega (arith, few, h)) ∙ sym (take_all m (chars bs) (omega (arith, few, k))))

pub same_after : (n m : ℕ) (bs : List ℕ) → IsUtf8 bs → length bs ≤ n → length bs ≤ m
    → after_chars n bs ≡ after_chars m bs
same_after n m bs u h k =
    let few = fewer bs u in
    ap encode_utf8_all
    (drop_all n (chars bs) (omega (arith, few, h)) ∙ sym (drop_all m (chars bs) (omega (arith, few, k))))
