-- Texts without some characters at their start, and places in texts.
use Rattle.std.proofs.Common.{◌≡◌, ◌+◌, ◌-◌, ◌≤◌, ◌==◌, ℕ, zero, suc, List, [], ◌∷◌, arith, refl}
use Rattle.std.proofs.Common.{ap, sym, ◌∙◌, true, false, cond, length}
use Rattle.std.specs.Prelude.{IsUtf8, chars, encode_utf8_all, nat_eq}
use Rattle.std.specs.List.{starts_with}
use Rattle.std.proofs.lemmas.Str.{encodes-chars}
use Rattle.vortex_sql_texts.specs.Places.{further, place_of}
use Rattle.vortex_sql_texts.specs.Trims.{has, skip, without_start}

-- how many characters are kept where k of the first s are, and the last of n after those
abbrev pub kept_of : ℕ → ℕ → ℕ → ℕ
kept_of s k zero = k
kept_of s k (suc n) = s + suc n

stays : (ks : List ℕ) (c : ℕ) (cs : List ℕ) → has ks c ≡ false → skip ks (c ∷ cs) ≡ c ∷ cs
stays ks c cs e = rw e refl

-- the rest of a text where its first character stays
pub stopped : (ks bs rest cs : List ℕ) (c : ℕ) → IsUtf8 rest
    → skip ks (chars bs) ≡ skip ks (chars rest) → chars rest ≡ c ∷ cs → has ks c ≡ false
    → rest ≡ without_start ks bs
stopped ks bs rest cs c u e k other =
    sym (encodes-chars rest u)
    ∙ ap encode_utf8_all (k ∙ sym (stays ks c cs other) ∙ ap (skip ks) (sym k) ∙ sym e)

-- and where there is none
pub emptied : (ks bs rest : List ℕ) → IsUtf8 rest → skip ks (chars bs) ≡ skip ks (chars rest)
    → chars rest ≡ [] → rest ≡ without_start ks bs
emptied ks bs rest u e k =
    sym (encodes-chars rest u) ∙ ap encode_utf8_all (k ∙ ap (skip ks) (sym k) ∙ sym e)

further_more : (k n : ℕ) → further k (further 2 n) ≡ further (k + 1) n
further_more k zero = refl
further_more k (suc n) = let e : 2 + n ≡ suc (suc n) = omega arith in rw e (omega arith)

-- the place is one in what follows a character with which the text does not begin as ds does
pub step_place : (ds bs rest after : List ℕ) (c : ℕ) → IsUtf8 rest
    → starts_with nat_eq rest ds ≡ false → chars rest ≡ c ∷ chars after
    → length (chars rest) ≤ length (chars bs)
    → place_of ds (chars bs)
    ≡ further (length (chars bs) - length (chars rest) + 1) (place_of ds (chars rest))
    → place_of ds (chars bs)
    ≡ further (length (chars bs) - length (chars after) + 1) (place_of ds (chars after))
step_place ds bs rest after c u other e le h =
    let n = place_of ds (chars after) in
    let k = length (chars bs) - length (chars rest) + 1 in
    let begins : starts_with nat_eq (encode_utf8_all (c ∷ chars after)) ds ≡ false =
    ap (λ cs. starts_with nat_eq (encode_utf8_all cs) ds) (sym e)
    ∙ ap (λ x. starts_with nat_eq x ds) (encodes-chars rest u) ∙ other in
    let rest_is : place_of ds (chars rest) ≡ further 2 n =
    ap (place_of ds) e ∙ ap (λ t. cond t 1 (further 2 n)) begins in
    let size : length (chars rest) ≡ suc (length (chars after)) = ap length e in
    let more : k + 1 ≡ length (chars bs) - length (chars after) + 1 = omega (arith, size, le) in
    h ∙ ap (further k) rest_is ∙ further_more k n ∙ ap (λ m. further m n) more

begun : (ds cs : List ℕ) → starts_with nat_eq (encode_utf8_all cs) ds ≡ true → place_of ds cs ≡ 1
begun ds [] e = rw e refl
begun ds (c ∷ cs) e = rw e refl

-- the place where the rest begins as ds does
pub found_place : (ds bs rest : List ℕ) → IsUtf8 rest → starts_with nat_eq rest ds ≡ true
    → place_of ds (chars bs)
    ≡ further (length (chars bs) - length (chars rest) + 1) (place_of ds (chars rest))
    → place_of ds (chars bs) ≡ length (chars bs) - length (chars rest) + 1
found_place ds bs rest u same_start h =
    let k = length (chars bs) - length (chars rest) + 1 in
    let one = begun ds (chars rest) (ap (λ x. starts_with nat_eq x ds) (encodes-chars rest u) ∙ same_start) in
    let same : k + 0 ≡ k = omega arith in
    h ∙ ap (further k) one ∙ same
