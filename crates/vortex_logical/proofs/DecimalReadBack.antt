-- What is written of a decimal is read back.
use Rattle.std.proofs.Common.{◌≡◌, ℕ, pos, negsuc, zero, suc, ◌+◌, ◌-◌, ◌*◌, ◌/◌, ◌%◌, ◌^◌, ◌<◌, ◌≤◌, true, false}
use Rattle.std.proofs.Common.{List, [], ◌∷◌, ◌++◌, Some, None, sym, ap, ◌∙◌, arith, subst, refl}
use Rattle.std.proofs.Common.{append_assoc, append-nil}
use Rattle.std.specs.Prelude.{if◌then◌else◌, ◌==◌, neg_ℤ, nat_lt, codes}
use Rattle.std.specs.Char.{is_ascii_digit}
use Rattle.std.specs.Fmt.{decimal}
use Rattle.std.specs.Option.{option_map}
use Rattle.std.specs.Str.{bytes_eq}
use Rattle.std.proofs.lemmas.Fmt.{decimal_by_steps}
use Rattle.std.proofs.Math.Nat.{div-div-eq-div-mul, div-le_self, lt_of_le_of_lt}
use Rattle.vortex_logical.specs.Digits.{Digits, AreDigits}
use Rattle.vortex_logical.specs.DecimalTexts.{value_from, last_digits, below_limit, magnitude_of_text}
use Rattle.vortex_logical.specs.DecimalTexts.{magnitude_text, decimal_of_text, DecimalsAreReadBack}
use Rattle.vortex_logical.proofs.DecimalLaws.{ten_between}
use Rattle.vortex_logical.proofs.DecimalWriting.{ten_times}

digit : (d : ℕ) → d < 10 → is_ascii_digit (48 + d) ≡ true
digit d h = grind (arith, h)

no_point : (d : ℕ) → d < 10 → (48 + d == 46) ≡ false
no_point d h = grind (arith, h)

back : (d : ℕ) → 48 + d - 48 ≡ d
back d = omega arith

head : (left n d : ℕ) (bs : List ℕ) → d < 10 → value_from false left n ((48 + d) ∷ bs) ≡ value_from false left (n * 10 + d) bs
head left n d bs h =
    (λ i. if no_point d h i then value_from true left n bs
    else (if digit d h i then value_from false left (n * 10 + back d i) bs else None))

tail : (left n d : ℕ) (bs : List ℕ) → d < 10 → value_from true (suc left) n ((48 + d) ∷ bs) ≡ value_from true left (n * 10 + d) bs
tail left n d bs h = (λ i. if digit d h i then value_from true left (n * 10 + back d i) bs else None)

whole : (left n : ℕ) → n < 2 ^ 64 → (bs : List ℕ) → value_from false left 0 (decimal n ++ bs) ≡ value_from false left n bs
whole left n h = decimal_by_steps Read one more n h
  where
    Read : ℕ → List ℕ → Type 0
    Read n ds = (bs : List ℕ) → value_from false left 0 (ds ++ bs) ≡ value_from false left n bs

    one : (n : ℕ) → n < 10 → Read n ((48 + n) ∷ [])
    one n lt bs = head left 0 n bs lt ∙ ap (λ m. value_from false left m bs) (omega arith)

    more : (n : ℕ) (ds : List ℕ) → 10 ≤ n → Read (n / 10) ds → Read n (ds ++ ((48 + n % 10) ∷ []))
    more n ds ge read bs =
        ap (value_from false left 0) (append_assoc ds ((48 + n % 10) ∷ []) bs)
        ∙ read ((48 + n % 10) ∷ bs)
        ∙ head left (n / 10) (n % 10) bs (omega arith)
        ∙ ap (λ m. value_from false left m bs) (omega arith)

-- the number of the last k digits
abbrev rest : ℕ → ℕ → ℕ
rest zero n = 0
rest (suc k) n = rest k (n / 10) * 10 + n % 10

split : (k n : ℕ) → n / 10 ^ k * 10 ^ k + rest k n ≡ n
split zero n = omega arith
split (suc k) n =
    (λ i. n / ten_times k i * ten_times k i + rest (suc k) n)
    ∙ ap (λ q. q * (10 * 10 ^ k) + rest (suc k) n) (sym (div-div-eq-div-mul n 10 (10 ^ k)))
    ∙ omega (arith, split k (n / 10))

places : (k j acc n : ℕ) (bs : List ℕ)
    → value_from true (k + j) acc (last_digits k n ++ bs) ≡ value_from true j (acc * 10 ^ k + rest k n) bs
places zero j acc n bs = λ i. value_from true (none i) (plain i) bs
  where
    none : 0 + j ≡ j
    none = omega arith

    plain : acc ≡ acc * 10 ^ 0 + 0
    plain = omega arith
places (suc k) j acc n bs =
    (λ i. value_from true (one_more i) acc (append_assoc (last_digits k (n / 10)) ((48 + n % 10) ∷ []) bs i))
    ∙ places k (suc j) acc (n / 10) ((48 + n % 10) ∷ bs)
    ∙ tail j (acc * 10 ^ k + rest k (n / 10)) (n % 10) bs (omega arith)
    ∙ ap (λ m. value_from true j m bs) step
  where
    one_more : suc k + j ≡ k + suc j
    one_more = omega arith

    step : (acc * 10 ^ k + rest k (n / 10)) * 10 + n % 10 ≡ acc * 10 ^ suc k + rest (suc k) n
    step = omega (arith, ap (λ p. acc * p) (ten_times k))

digits_back : (s n : ℕ) → n < 2 ^ 64 → value_from false s 0 (magnitude_text s n) ≡ Some n
digits_back zero n h =
    ap (value_from false 0 0) (sym (append-nil (decimal n))) ∙ whole 0 n h [] ∙ ap (λ m. Some m) (omega arith)
digits_back (suc s) n h =
    whole (suc s) (n / 10 ^ suc s) (lt_of_le_of_lt (div-le_self n (10 ^ suc s)) h) (46 ∷ last_digits (suc s) n)
    ∙ (λ i. value_from true (all i) (n / 10 ^ suc s) (sym (append-nil (last_digits (suc s) n)) i))
    ∙ places (suc s) 0 (n / 10 ^ suc s) n []
    ∙ ap (λ m. Some m) (omega (arith, split (suc s) n))
  where
    all : suc s ≡ suc s + 0
    all = omega arith

-- ---- the first byte of a text

-- a text whose first byte is a digit
abbrev Begins : List ℕ → Type 0
Begins bs = (d : ℕ) × (rest : List ℕ) × (d < 10) × (bs ≡ (48 + d) ∷ rest)

begins : (n : ℕ) → n < 2 ^ 64 → Begins (decimal n)
begins n h = decimal_by_steps (λ n ds. Begins ds) one more n h
  where
    one : (n : ℕ) → n < 10 → Begins ((48 + n) ∷ [])
    one n lt = (n, [], lt, refl)

    more : (n : ℕ) (ds : List ℕ) → 10 ≤ n → Begins ds → Begins (ds ++ ((48 + n % 10) ∷ []))
    more n ds ge b = (b.0, b.1 ++ ((48 + n % 10) ∷ []), b.2, ap (λ l. l ++ ((48 + n % 10) ∷ [])) b.3)

begins_more : (ds bs : List ℕ) → Begins ds → Begins (ds ++ bs)
begins_more ds bs b = (b.0, b.1 ++ bs, b.2, ap (λ l. l ++ bs) b.3)

magnitude_begins : (s n : ℕ) → n < 2 ^ 64 → Begins (magnitude_text s n)
magnitude_begins zero n h = begins n h
magnitude_begins (suc s) n h =
    begins_more (decimal (n / 10 ^ suc s)) (46 ∷ last_digits (suc s) n)
    (begins (n / 10 ^ suc s) (lt_of_le_of_lt (div-le_self n (10 ^ suc s)) h))

no_dot : (d : ℕ) (bs : List ℕ) → d < 10 → bytes_eq ((48 + d) ∷ bs) (codes ".") ≡ false
no_dot d bs h = grind (arith, no_point d h)

small : (n limit : ℕ) → n < limit → below_limit limit (Some n) ≡ Some n
small n limit h = λ i. if less i then Some n else None
  where
    less : nat_lt n limit ≡ true
    less = grind (arith, h)

limit_small : (p n : ℕ) → p ≤ 18 → n < 10 ^ p → n < 2 ^ 64
limit_small p n h lt = omega (arith, (ten_between p h).1, lt)

magnitude_back_at : (d : Digits) (text : List ℕ) (n : ℕ) → Begins text → value_from false d.scale 0 text ≡ Some n
    → n < 10 ^ d.precision → magnitude_of_text d text ≡ Some n
magnitude_back_at d text n b e lt =
    subst (λ t. value_from false d.scale 0 t ≡ Some n → magnitude_of_text d t ≡ Some n) (sym b.3) at e
  where
    at : value_from false d.scale 0 ((48 + b.0) ∷ b.1) ≡ Some n → magnitude_of_text d ((48 + b.0) ∷ b.1) ≡ Some n
    at e =
        (λ i. if no_dot b.0 b.1 b.2 i then None
        else below_limit (10 ^ d.precision) (value_from false d.scale 0 ((48 + b.0) ∷ b.1)))
        ∙ ap (below_limit (10 ^ d.precision)) e
        ∙ small n (10 ^ d.precision) lt

magnitude_back : (d : Digits) → AreDigits d → (n : ℕ) → n < 10 ^ d.precision
    → magnitude_of_text d (magnitude_text d.scale n) ≡ Some n
magnitude_back d h n lt =
    let few = limit_small d.precision n h.1 lt in
    magnitude_back_at d (magnitude_text d.scale n) n (magnitude_begins d.scale n few) (digits_back d.scale n few) lt

no_sign : (k n : ℕ) → k < 48 → (48 + n == k) ≡ false
no_sign k n h = grind (arith, h)

unsigned_at : (d : Digits) (text : List ℕ) → Begins text
    → decimal_of_text d text ≡ option_map (λ n. pos n) (magnitude_of_text d text)
unsigned_at d text b =
    subst (λ t. decimal_of_text d t ≡ option_map (λ n. pos n) (magnitude_of_text d t)) (sym b.3)
    (λ i. if no_sign 45 b.0 (omega arith) i then option_map (λ n. neg_ℤ (pos n)) (magnitude_of_text d b.1)
    else (if no_sign 43 b.0 (omega arith) i then option_map (λ n. pos n) (magnitude_of_text d b.1)
    else option_map (λ n. pos n) (magnitude_of_text d ((48 + b.0) ∷ b.1))))

pub decimals_are_read_back : DecimalsAreReadBack
decimals_are_read_back d h (pos n) lt =
    unsigned_at d (magnitude_text d.scale n) (magnitude_begins d.scale n (limit_small d.precision n h.1 lt))
    ∙ ap (option_map (λ n. pos n)) (magnitude_back d h n lt)
decimals_are_read_back d h (negsuc n) lt = ap (option_map (λ n. neg_ℤ (pos n))) (magnitude_back d h (suc n) lt)
