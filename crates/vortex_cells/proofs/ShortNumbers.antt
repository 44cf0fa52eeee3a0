-- Numbers of 64 bits, which are read digit by digit.
use Rattle.std.proofs.Common.{◌≡◌, ℕ, ◌+◌, ◌-◌, ◌*◌, ◌<◌, ◌≤◌, true, List, ◌∷◌}
use Rattle.std.proofs.Common.{ap, sym, ◌∙◌, ◌&&◌, refl, arith, length, get_or, drop, Some, ℤ, pos}
use Rattle.std.proofs.Common.{zero, suc, ◌-ℤ◌, ◌^◌, subst, Option, ◌≢◌, add-one}
use Rattle.std.specs.Int.{w128}
use mir.Val.{to_z, of_z, hbits, SFits}
use Rattle.std.proofs.lemmas.Int.{ints, to_z-of_z}
use Rattle.std.specs.Prelude.{option_map, MatchOption, ⊤}
use Rattle.std.specs.List.{list_all}
use Rattle.std.specs.Char.{is_ascii_digit}
use Rattle.std.proofs.lemmas.List.{drop_more, drop_all}
use Rattle.vortex_cells.specs.CellValues.{decimal_from, digits_of, negative, integer_of}
use Rattle.vortex_cells.proofs.Numbers.{are_digits, digits_known, integer_plain}

-- what is left after the first k bytes is the rest of the number, all digits if the whole is
pub record SaysFrom (bs : List ℕ) (k n : ℕ) : Type 0 where
  pub number : decimal_from n (drop k bs) ≡ decimal_from 0 bs
  pub digits : list_all is_ascii_digit (drop k bs) ≡ list_all is_ascii_digit bs

-- an iteration over the bytes
pub next_digit : (bs : List ℕ) (k n d next : ℕ) → k < length bs → d ≡ get_or bs k 0
    → is_ascii_digit d ≡ true → next ≡ n * 10 + (d - 48) → SaysFrom bs k n
    → SaysFrom bs (k + 1) next
next_digit bs k n d next h is digit sum before = record {
  number =
      ap (λ (m : ℕ). decimal_from m (drop (k + 1) bs)) (grind (arith, sum))
      ∙ ap (λ (x : ℕ). decimal_from (10 * n + (x - 48)) (drop (k + 1) bs)) is
      ∙ sym (ap (decimal_from n) (drop_more bs k 0 h)) ∙ before.number;
  digits =
      sym (ap (λ b. b && list_all is_ascii_digit (drop (k + 1) bs))
      (ap is_ascii_digit (sym is) ∙ digit))
      ∙ sym (ap (list_all is_ascii_digit) (drop_more bs k 0 h)) ∙ before.digits;
}

-- the number after the last byte
pub last_digit : (bs : List ℕ) (k n : ℕ) → 0 < length bs → length bs ≤ k → SaysFrom bs k n
    → digits_of bs ≡ Some n
last_digit bs k n some past at =
    (are_digits bs (sym (digits_known bs some true all))).say ∙ ap Some (sym number)
  where
    all : list_all is_ascii_digit bs ≡ true
    all = sym at.digits ∙ ap (list_all is_ascii_digit) (drop_all k bs past)

    number : n ≡ decimal_from 0 bs
    number = sym (ap (decimal_from n) (drop_all k bs past)) ∙ at.number

-- the greatest number of that many digits
abbrev pub most_of : ℕ → ℕ
most_of zero = 0
most_of (suc k) = most_of k * 10 + 9

most_more : (k m : ℕ) → k ≤ m → most_of k ≤ most_of m
most_more zero m h = omega arith
most_more (suc k) zero h = absurd (omega (arith, h))
most_more (suc k) (suc m) h = omega (arith, most_more k m (omega (arith, h)))

-- a number with few enough digits that 64 bits hold it with one more
pub few_held : (k n : ℕ) → k < 19 → n ≤ most_of k → n ≤ 999999999999999999
few_held k n few h =
    let most : most_of k ≤ 999999999999999999 = most_more k 18 (omega (arith, few)) in
    omega (arith, h, most)

-- and with one more digit
pub few_more : (k n d next : ℕ) → d ≤ 9 → n ≤ most_of k → next ≡ n * 10 + d
    → next ≤ most_of (k + 1)
few_more k n d next digit h is =
    subst (λ (m : ℕ). next ≤ most_of m) (sym (add-one k)) (omega (arith, digit, h, is))

minus : (n : ℕ) → pos 0 -ℤ pos n ≡ negative n
minus zero = refl
minus (suc n) = grind (arith, ints)

fits : (n : ℕ) → n < 2 ^ hbits w128 → SFits w128 (negative n)
fits zero h = record { sfits = h }
fits (suc n) h = record { sfits = omega (arith, h) }

-- a number of 64 bits fits in 128 bits after a minus sign too
pub turned : (n : ℕ) (z : ℤ) → n < 2 ^ hbits w128 → z ≡ pos n
    → to_z w128 (of_z w128 (pos 0 -ℤ z)) ≡ negative n
turned n z h is =
    to_z-of_z w128 _ (subst (SFits w128) (sym same) (fits n h)) ∙ same
  where
    same : pos 0 -ℤ z ≡ negative n
    same = ap (λ (y : ℤ). pos 0 -ℤ y) is ∙ minus n

-- bytes that begin with a minus sign, and others
pub minus_first : (w rest : List ℕ) (b : ℕ) → w ≡ b ∷ rest → b ≡ 45
    → option_map negative (digits_of rest) ≡ integer_of w
minus_first w rest b is first =
    sym (ap integer_of is ∙ ap (λ (x : ℕ). integer_of (x ∷ rest)) first)

pub plain_first : (w rest : List ℕ) (b : ℕ) → w ≡ b ∷ rest → b ≢ 45
    → option_map pos (digits_of w) ≡ integer_of w
plain_first w rest b is other =
    sym
    (integer_plain w
    (λ more e. other (ap (λ (bs : List ℕ). get_or bs 0 0) (sym is ∙ e))))

-- both ways to read a number agree
pub said_as : (a b r : Option ℤ) → a ≡ b → MatchOption r ⊤ (λ z. a ≡ Some z)
    → MatchOption r ⊤ (λ z. b ≡ Some z)
said_as a b r e h = subst (λ (o : Option ℤ). MatchOption r ⊤ (λ z. o ≡ Some z)) e h
