-- The name of a kind is read back as the kind.
use Rattle.std.proofs.Common.{◌≡◌, ◌⊎◌, inl, inr, ℕ, ◌+◌, ◌-◌, ◌<◌, ◌≤◌, ◌/◌, ◌%◌, true, refl, ap, ◌∙◌, arith}
use Rattle.std.proofs.Common.{List, [], ◌∷◌, ◌++◌, Some}
use Rattle.std.specs.Prelude.{codes, nat_le, if◌then◌else◌, None, ◌&&◌}
use Rattle.std.specs.Char.{is_ascii_digit}
use Rattle.std.specs.Fmt.{decimal}
use Rattle.std.specs.Option.{option_map}
use Rattle.std.proofs.lemmas.Fmt.{decimal_digit, decimal_step}
use Rattle.vortex_logical.specs.declared.kind.Kind.TheVariants.{Plain, Date, Timestamp, Decimal, F64, F32}
use Rattle.vortex_logical.specs.Digits.{AreDigits, digits_of}
use Rattle.vortex_logical.specs.Kinds.{kind_named, decimal_kind, decimal_of, digit_of, teen_of, NamesAreReadBack}

is_digit : (n : ℕ) → n < 10 → is_ascii_digit (48 + n) ≡ true
is_digit n h = grind (arith, h)

digit_back : (n : ℕ) → n < 10 → digit_of (48 + n) ≡ Some n
digit_back n h = (λ i. if is_digit n h i then Some (48 + n - 48) else None) ∙ ap (λ m. Some m) (omega arith)

teen_back : (n : ℕ) → 10 ≤ n → n < 20 → teen_of 49 (48 + (n - 10)) ≡ Some n
teen_back n low high =
    ap (option_map (λ m. 10 + m)) (digit_back (n - 10) (omega arith)) ∙ ap (λ m. Some m) (omega arith)

teen_text : (n : ℕ) → 10 ≤ n → n < 20 → decimal n ≡ 49 ∷ (48 + (n - 10)) ∷ []
teen_text n low high =
    decimal_step n low (omega arith)
    ∙ (λ i. decimal (tens i) ++ (48 + ones i) ∷ [])
    ∙ ap (λ ds. ds ++ (48 + (n - 10)) ∷ []) (decimal_digit 1 (omega arith))
  where
    tens : n / 10 ≡ 1
    tens = omega arith

    ones : n % 10 ≡ n - 10
    ones = omega arith

kind_back : (p s : ℕ) → AreDigits (digits_of p s) → decimal_kind p s ≡ Some (Decimal (digits_of p s))
kind_back p s h = λ i. if (some i && most i) && within i then Some (Decimal (digits_of p s)) else None
  where
    some : nat_le 1 p ≡ true
    some = grind (arith, h.0)

    most : nat_le p 18 ≡ true
    most = grind (arith, h.1)

    within : nat_le s p ≡ true
    within = grind (arith, h.2)

abbrev name_of : List ℕ → List ℕ → List ℕ
name_of p s = codes "decimal(" ++ p ++ codes "," ++ s ++ codes ")"

below : (n k : ℕ) → (n < k) ⊎ (k ≤ n)
below n k = grind arith

decimal_back : (p s : ℕ) → AreDigits (digits_of p s)
    → kind_named (name_of (decimal p) (decimal s)) ≡ Some (Decimal (digits_of p s))
decimal_back p s h = by (below p 10) (below s 10)
  where
    by : (p < 10) ⊎ (10 ≤ p) → (s < 10) ⊎ (10 ≤ s)
        → kind_named (name_of (decimal p) (decimal s)) ≡ Some (Decimal (digits_of p s))
    by (inl a) (inl b) =
        (λ i. kind_named (name_of (decimal_digit p a i) (decimal_digit s b i)))
        ∙ (λ i. decimal_of (digit_back p a i) 44 (digit_back s b i) 41)
        ∙ kind_back p s h
    by (inl a) (inr b) = absurd (omega (arith, h.2))
    by (inr a) (inl b) =
        let small : p < 20 = omega (arith, h.1) in
        (λ i. kind_named (name_of (teen_text p a small i) (decimal_digit s b i)))
        ∙ (λ i. decimal_of (teen_back p a small i) 44 (digit_back s b i) 41)
        ∙ kind_back p s h
    by (inr a) (inr b) =
        let small : p < 20 = omega (arith, h.1) in
        let few : s < 20 = omega (arith, h.1, h.2) in
        (λ i. kind_named (name_of (teen_text p a small i) (teen_text s b few i)))
        ∙ (λ i. decimal_of (teen_back p a small i) 44 (teen_back s b few i) 41)
        ∙ kind_back p s h

pub names_are_read_back : NamesAreReadBack
names_are_read_back Plain h = absurd h
names_are_read_back Date h = refl
names_are_read_back Timestamp h = refl
names_are_read_back (Decimal d) h = decimal_back d.precision d.scale h
names_are_read_back F64 h = refl
names_are_read_back F32 h = refl
