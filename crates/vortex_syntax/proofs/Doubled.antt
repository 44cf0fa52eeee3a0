-- Texts in which each quote is doubled, from one quote to the next.
use Rattle.std.proofs.Common.{◌≡◌, ◌≢◌, ℕ, suc, ◌+◌, ◌<◌, ◌==◌, false, drop, subst, List, [], ◌∷◌}
use Rattle.std.proofs.Common.{◌++◌, length, get_or, refl, ap, sym, ◌∙◌, append_assoc, length-append}
use Rattle.std.proofs.Common.{arith}
use Rattle.std.specs.Prelude.{IsUtf8, encode_utf8}
use Rattle.std.proofs.lemmas.List.{get_or_at, drop_at}
use Rattle.std.proofs.lemmas.Str.{IsUtf8-drop, IsCharBoundary-after_ascii, encode_ascii}
use Rattle.std.proofs.lemmas.Bool.{eq-eqb}
use Rattle.std.proofs.lemmas.Bool.Decides.{nat_tests}
use Rattle.vortex_syntax.specs.Writing.{doubled}

is_other : (a q : ℕ) → a ≢ q → (a == q) ≡ false
is_other a q h = grind (arith, nat_tests)

-- bytes without a quote are unchanged
abbrev pub NoQuote : ℕ → List ℕ → Type 0
NoQuote q bs = (i : ℕ) → i < length bs → get_or bs i 0 ≢ q

pub doubled_none : (q : ℕ) (bs : List ℕ) → NoQuote q bs → doubled q bs ≡ bs
doubled_none q [] h = refl
doubled_none q (b ∷ bs) h =
    let other = is_other b q (h 0 (omega arith)) in
    rw other (ap (λ ys. b ∷ ys) (doubled_none q bs (λ i lt. h (suc i) (omega (arith, lt)))))

doubled_first : (q : ℕ) (xs ys : List ℕ) → NoQuote q xs
    → doubled q (xs ++ (q ∷ ys)) ≡ xs ++ (q ∷ q ∷ doubled q ys)
doubled_first q [] ys h = let same = eq-eqb q q refl in rw same refl
doubled_first q (x ∷ xs) ys h =
    let other = is_other x q (h 0 (omega arith)) in
    rw other (ap (λ zs. x ∷ zs) (doubled_first q xs ys (λ i lt. h (suc i) (omega (arith, lt)))))

regrouped : (out xs : List ℕ) (q : ℕ) (ys : List ℕ)
    → out ++ (xs ++ (q ∷ q ∷ ys)) ≡ (((out ++ xs) ++ (q ∷ [])) ++ (q ∷ [])) ++ ys
regrouped out xs q ys = simp append_assoc

-- what is written up to a quote, and what is left after it
pub doubled_more : (q : ℕ) (all out bs xs ys : List ℕ) → bs ≡ xs ++ (q ∷ ys) → NoQuote q xs
    → out ++ doubled q bs ≡ all
    → (((out ++ xs) ++ (q ∷ [])) ++ (q ∷ [])) ++ doubled q ys ≡ all
doubled_more q all out bs xs ys e h so_far =
    sym (regrouped out xs q (doubled q ys))
    ∙ ap (λ zs. out ++ zs) (sym (ap (doubled q) e ∙ doubled_first q xs ys h)) ∙ so_far

pub doubled_last : (q : ℕ) (all out bs : List ℕ) → NoQuote q bs → out ++ doubled q bs ≡ all
    → out ++ bs ≡ all
doubled_last q all out bs h so_far = ap (λ zs. out ++ zs) (sym (doubled_none q bs h)) ∙ so_far

pub shorter_behind : (q : ℕ) (bs xs ys : List ℕ) → bs ≡ xs ++ (q ∷ ys) → length ys < length bs
shorter_behind q bs xs ys e = omega (arith, ap length e, length-append xs (q ∷ ys))

-- a text may continue after a quote
pub utf8_behind : (q : ℕ) (bs xs ys : List ℕ) → q < 128 → IsUtf8 bs → bs ≡ xs ++ (q ∷ ys)
    → IsUtf8 ys
utf8_behind q bs xs ys low u e =
    let here : get_or bs (length xs) 0 ≡ q = ap (λ zs. get_or zs (length xs) 0) e
    ∙ get_or_at xs q ys 0 (length xs) refl in
    let within : length xs < length bs = omega (arith, ap length e, length-append xs (q ∷ ys)) in
    let cut = IsUtf8-drop bs (length xs + 1) u
    (IsCharBoundary-after_ascii bs (length xs) u within (omega (arith, here, low))) in
    let long : length (xs ++ (q ∷ [])) ≡ length xs + 1 = omega (arith, length-append xs (q ∷ [])) in
    let rest : drop (length xs + 1) bs ≡ ys =
    ap (drop (length xs + 1)) (e ∙ sym (append_assoc xs (q ∷ []) ys))
    ∙ drop_at (xs ++ (q ∷ [])) ys (length xs + 1) long in
    subst IsUtf8 rest cut

-- a text, and a doubled quote
pub pushed : (q : ℕ) (out xs a b c : List ℕ) → q < 128 → a ≡ out ++ xs → b ≡ a ++ encode_utf8 q
    → c ≡ b ++ encode_utf8 q → c ≡ ((out ++ xs) ++ (q ∷ [])) ++ (q ∷ [])
pushed q out xs a b c low e g h =
    let one = encode_ascii q low in
    h ∙ ap (λ zs. b ++ zs) one
    ∙ ap (λ zs. zs ++ (q ∷ [])) (g ∙ ap (λ zs. a ++ zs) one ∙ ap (λ zs. zs ++ (q ∷ [])) e)
