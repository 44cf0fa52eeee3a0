-- The last bytes of inlined values, as numbers.
use Rattle.std.proofs.Common.{◌≡◌, ℕ, zero, suc, ◌+◌, ◌*◌, ◌/◌, ◌^◌, ◌<◌, ◌≤◌, List, [], ◌∷◌}
use Rattle.std.proofs.Common.{length, drop, get_or, sym, ◌∙◌, ap, arith, refl}
use Rattle.std.proofs.Math.Nat.{div-div-eq-div-mul, pow-succ'}
use Rattle.std.proofs.lemmas.Nat.{div-mul-add}
use Rattle.std.proofs.lemmas.List.{length-drop}
use Rattle.std.specs.Int.{w128, from_le_bytes}
use Rattle.vortex_views.specs.ViewBytes.{inlined_view, view_len}
use Rattle.vortex_views.proofs.Digits.{AreBytes}
use Rattle.vortex_views.proofs.ByteOrder.{later}
use Rattle.vortex_views.proofs.FirstBytes.{small, positive}
use Rattle.vortex_views.proofs.Layouts.{short_len}

-- all bytes, least significant first
abbrev pub number : List ℕ → ℕ
number [] = 0
number (x ∷ xs) = x + 256 * number xs

-- n bytes from byte i on, zero past the end
abbrev digits_up : ℕ → ℕ → List ℕ → ℕ
digits_up zero i xs = 0
digits_up (suc n) i xs = get_or xs i 0 + 256 * digits_up n (suc i) xs

past : (n i x : ℕ) (xs : List ℕ) → digits_up n (suc i) (x ∷ xs) ≡ digits_up n i xs
past zero i x xs = refl
past (suc n) i x xs = ap (λ r. get_or xs i 0 + 256 * r) (past n (suc i) x xs)

none : (n i : ℕ) → digits_up n i [] ≡ 0
none zero i = refl
none (suc n) i = omega (arith, none n (suc i))

all_digits : (n : ℕ) (xs : List ℕ) → length xs ≤ n → digits_up n 0 xs ≡ number xs
all_digits n [] h = none n 0
all_digits zero (x ∷ xs) h = absurd (omega arith)
all_digits (suc n) (x ∷ xs) h =
    ap (λ r. x + 256 * r) (past n 0 x xs ∙ all_digits n xs (omega arith))

-- after k bytes
behind : (k : ℕ) (xs : List ℕ) → AreBytes xs → number xs / 256 ^ k ≡ number (drop k xs)
behind zero xs h = omega arith
behind (suc k) [] h = small 0 (256 ^ suc k) (positive (suc k))
behind (suc k) (x ∷ xs) h =
    let low : x < 256 = h 0 in
    let whole : (x + 256 * number xs) / 256 ≡ number xs = omega arith in
    ap (λ p. (x + 256 * number xs) / p) (pow-succ' 256 k)
    ∙ sym (div-div-eq-div-mul (x + 256 * number xs) 256 (256 ^ k))
    ∙ ap (λ z. z / 256 ^ k) whole
    ∙ behind k xs (λ i. h (suc i))

-- equal numbers of as many bytes come from equal bytes
same_numbers : (xs ys : List ℕ) → AreBytes xs → AreBytes ys → length xs ≡ length ys
    → number xs ≡ number ys → xs ≡ ys
same_numbers [] [] h k l e = refl
same_numbers [] (y ∷ ys) h k l e = absurd (omega arith)
same_numbers (x ∷ xs) [] h k l e = absurd (omega arith)
same_numbers (x ∷ xs) (y ∷ ys) h k l e =
    let low : x < 256 = h 0 in
    let lower : y < 256 = k 0 in
    let first : x ≡ y = omega arith in
    let rest : number xs ≡ number ys = omega arith in
    ap (λ z. z ∷ xs) first
    ∙ ap (λ zs. y ∷ zs)
    (same_numbers xs ys (λ i. h (suc i)) (λ i. k (suc i)) (omega arith) rest)

view_number : (value : List ℕ)
    → from_le_bytes w128 (inlined_view value)
    ≡ digits_up 12 0 value * 2 ^ 32 + view_len (inlined_view value)
view_number value = omega arith

-- the number of a short value is that of its view, after the length
pub inlined_number : (value : List ℕ) → length value ≤ 12
    → from_le_bytes w128 (inlined_view value) / 2 ^ 32 ≡ number value
inlined_number value h =
    ap (λ z. z / 2 ^ 32)
    (view_number value
    ∙ ap (λ z. digits_up 12 0 value * 2 ^ 32 + z) (short_len value h)
    ∙ ap (λ z. z * 2 ^ 32 + length value) (all_digits 12 value h))
    ∙ div-mul-add (number value) (2 ^ 32) (length value) (omega arith)

-- a short value ends with a literal exactly where the numbers agree
pub same_ends : (at x y : ℕ) (value literal : List ℕ) → AreBytes value → AreBytes literal
    → length value ≤ 12 → at + length literal ≡ length value
    → x ≡ from_le_bytes w128 (inlined_view value) / 2 ^ 32 / 256 ^ at
    → y ≡ from_le_bytes w128 (inlined_view literal) / 2 ^ 32 / 256 ^ 0
    → (x ≡ y → literal ≡ drop at value) × (literal ≡ drop at value → x ≡ y)
same_ends at x y value literal h k short l d e = (
  λ s. sym (same_numbers (drop at value) literal (later at value h) k
      (omega (arith, length-drop at value)) (sym left ∙ s ∙ right)),
  λ s. left ∙ ap number (sym s) ∙ sym right,
)
  where
    left : x ≡ number (drop at value)
    left = d ∙ ap (λ z. z / 256 ^ at) (inlined_number value short) ∙ behind at value h

    right : y ≡ number literal
    right =
        e ∙ ap (λ z. z / 256 ^ 0) (inlined_number literal (omega arith)) ∙ behind 0 literal k
