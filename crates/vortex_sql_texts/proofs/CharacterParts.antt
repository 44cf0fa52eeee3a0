-- Parts of texts by their characters.
use Rattle.std.proofs.Common.{◌≡◌, ◌≤◌, ◌<◌, ◌+◌, ◌-◌, ℕ, zero, suc, List, [], ◌∷◌, ◌++◌, arith}
use Rattle.std.proofs.Common.{length, take, drop, refl, ap, sym, ◌∙◌, true, length-append, subst, add-one}
use Rattle.std.specs.Prelude.{IsUtf8, chars, encode_utf8_all}
use Rattle.std.specs.Str.{IsCharBoundary}
use Rattle.std.proofs.lemmas.Str.{encodes-append, encodes-chars, IsCharBoundary-at_seam}
use Rattle.vortex_sql_texts.specs.Characters.{after_chars, first_chars}

take_drop : {A : Type 0} (n : ℕ) (xs : List A) → take n xs ++ drop n xs ≡ xs
take_drop zero xs = refl
take_drop (suc n) [] = refl
take_drop (suc n) (x ∷ xs) = ap (λ ys. x ∷ ys) (take_drop n xs)

-- a text is its first characters and those after them
pub parts : (n : ℕ) (bs : List ℕ) → IsUtf8 bs → bs ≡ first_chars n bs ++ after_chars n bs
parts n bs u =
    sym (encodes-chars bs u) ∙ ap encode_utf8_all (sym (take_drop n (chars bs)))
    ∙ encodes-append (take n (chars bs)) (drop n (chars bs))

take_front : {A : Type 0} (xs ys : List A) → take (length xs) (xs ++ ys) ≡ xs
take_front [] ys = refl
take_front (x ∷ xs) ys = ap (λ zs. x ∷ zs) (take_front xs ys)

-- where they meet
pub seam : (n : ℕ) (bs rest : List ℕ) → IsUtf8 bs → rest ≡ after_chars n bs
    → length bs ≡ length (first_chars n bs) + length rest
seam n bs rest u e = ap length (parts n bs u) ∙ length-append (first_chars n bs) (after_chars n bs)
    ∙ ap (λ r. length (first_chars n bs) + length r) (sym e)

pub boundary : (n : ℕ) (bs rest : List ℕ) → IsUtf8 bs → IsUtf8 rest → rest ≡ after_chars n bs
    → (k : ℕ) → k ≡ length (first_chars n bs) → IsCharBoundary bs k
boundary n bs rest u v e k same =
    subst (IsCharBoundary bs) (sym same)
    (IsCharBoundary-at_seam bs (first_chars n bs) (after_chars n bs) (parts n bs u)
    (subst IsUtf8 e v))

pub front : (n : ℕ) (bs : List ℕ) → IsUtf8 bs → (k : ℕ) → k ≡ length (first_chars n bs)
    → take k bs ≡ first_chars n bs
front n bs u k same =
    ap (λ m. take m bs) same ∙ ap (take (length (first_chars n bs))) (parts n bs u)
    ∙ take_front (first_chars n bs) (after_chars n bs)

drop_nil : {A : Type 0} (n : ℕ) → drop {A = A} n [] ≡ []
drop_nil zero = refl
drop_nil (suc n) = refl

drop_more : {A : Type 0} (n i : ℕ) (xs : List A) → drop i xs ≡ [] → i ≤ n → drop n xs ≡ []
drop_more n i [] e h = drop_nil n
drop_more zero zero (x ∷ xs) e h = e
drop_more (suc n) zero (x ∷ xs) e h = cc
drop_more zero (suc i) (x ∷ xs) e h = absurd (omega (arith, h))
drop_more (suc n) (suc i) (x ∷ xs) e h = drop_more n i xs e (omega (arith, h))

-- the rest of a text from which all characters are taken
pub ended : (n i : ℕ) (bs rest : List ℕ) → IsUtf8 rest → drop i (chars bs) ≡ chars rest
    → chars rest ≡ [] → i ≤ n → rest ≡ after_chars n bs
ended n i bs rest u e k h =
    sym (encodes-chars rest u) ∙ ap encode_utf8_all (k ∙ sym (drop_more n i (chars bs) (e ∙ k) h))

-- the rest of a text without its first n characters
pub reached : (n i : ℕ) (bs rest : List ℕ) → IsUtf8 rest → drop i (chars bs) ≡ chars rest → i ≡ n
    → rest ≡ after_chars n bs
reached n i bs rest u e same =
    sym (encodes-chars rest u) ∙ ap encode_utf8_all (sym e)
    ∙ ap (λ k. after_chars k bs) same

past : {A : Type 0} (i : ℕ) (xs ys : List A) (x : A) → drop i xs ≡ x ∷ ys → drop (suc i) xs ≡ ys
past i [] ys x e = cc (drop_nil i)
past zero (y ∷ xs) ys x e = cc
past (suc i) (y ∷ xs) ys x e = past i xs ys x e

pub one_more : (i : ℕ) (bs rest after : List ℕ) (c : ℕ) → drop i (chars bs) ≡ chars rest
    → chars rest ≡ c ∷ chars after → drop (i + 1) (chars bs) ≡ chars after
one_more i bs rest after c e k = rw (add-one) (past i (chars bs) (chars after) c (e ∙ k))
