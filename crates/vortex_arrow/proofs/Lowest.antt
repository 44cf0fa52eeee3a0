-- The lowest bit of a word that is set, and the word without it; how many bits are set.
use Rattle.std.proofs.Common.{◌≡◌, ◌⊎◌, inl, inr, ℕ, zero, suc, ◌+◌, ◌-◌, ◌*◌, ◌/◌, ◌%◌, ◌^◌, ◌<◌, ◌≤◌}
use Rattle.std.proofs.Common.{Bool, true, false, cond, ◌&&◌, refl, sym, ap, ◌∙◌, arith, bit_and}
use Rattle.std.proofs.Common.{count_ones, length, nat_eq, w64}
use Rattle.std.specs.Int.{bit_at, trailing_zeros}
use Rattle.std.specs.Int.Count.{trailing_of_zero}
use Rattle.std.proofs.lemmas.Bool.{cases_lt}
use Rattle.std.proofs.lemmas.List.{length_push}
use Rattle.std.proofs.lemmas.Nat.{div-add-mod', mod-pow-add, pow_pos, pow_below, and_le_r}
use Rattle.std.proofs.lemmas.Nat.Bits.{bit_at-zero, bit_at-lt, bit_at-pow_same, bit_at-pow_other}
use Rattle.std.proofs.lemmas.Nat.Bits.{bit_at_ones, bit_at_ones_above, bit_at-trailing_zeros}
use Rattle.std.proofs.lemmas.Nat.Bits.{bit_at_above}
use Rattle.std.proofs.lemmas.Nat.Bits.{bit_at_cat_low, bit_at_cat_high, same_from_bits}
use Rattle.std.proofs.Math.Nat.{mod-lt, mod-eq_of_lt}
use lib.Count.{ones_cat, ones-ones}
use Rattle.vortex_bits.specs.Bits.{bit}
use Rattle.vortex_bits.proofs.WordLogic.{and_bit}
use Rattle.vortex_arrow.specs.Written.{places}
use Rattle.vortex_arrow.proofs.Places.{no_places, next_place, next_none}

pub zero_or_some : (n : ℕ) → (n ≡ 0) ⊎ (0 < n)
zero_or_some n = grind arith

below_at_or_above : (i t : ℕ) → (i < t) ⊎ (i ≡ t) ⊎ (t < i)
below_at_or_above i t = grind arith

pub bit_of_zero : (j : ℕ) → bit 0 j ≡ false
bit_of_zero j = ap (λ n. nat_eq n 1) (bit_at-zero j)

one_less : (n p q : ℕ) → n ≡ p + q → 0 < q → n - 1 ≡ p + (q - 1)
one_less n p q e some = omega arith

both_same : (b : Bool) → (b && b) ≡ b
both_same true = refl
both_same false = refl

and_none : (b : Bool) → (b && false) ≡ false
and_none true = refl
and_none false = refl

-- bit t of n is set and none below it is
module _ (n t : ℕ) (set : bit_at n t ≡ 1) (below : (i : ℕ) → i < t → bit_at n i ≡ 0) where
  high : ℕ
  high = n / 2 ^ (t + 1)

  low : ℕ
  low = n % 2 ^ (t + 1)

  whole : high * 2 ^ (t + 1) + low ≡ n
  unfolding high low
  whole = div-add-mod' n (2 ^ (t + 1))

  low_small : low < 2 ^ (t + 1)
  unfolding low
  low_small = mod-lt n (pow_pos (t + 1))

  low_bit : (i : ℕ) → i < t + 1 → bit_at low i ≡ bit_at n i
  low_bit i lt = sym (bit_at_cat_low high (t + 1) low i lt) ∙ ap (λ m. bit_at m i) whole

  low_is : low ≡ 2 ^ t
  low_is = same_from_bits low (2 ^ t) (λ i. each i (below_at_or_above i t))
    where
      each : (i : ℕ) → (i < t) ⊎ (i ≡ t) ⊎ (t < i) → bit_at low i ≡ bit_at (2 ^ t) i
      each i (inl lt) =
          low_bit i (omega arith) ∙ below i lt
          ∙ sym (bit_at-pow_other t i (λ e. absurd (omega (arith, e))))
      each i (inr (inl e)) =
          ap (bit_at low) e ∙ low_bit t (omega arith) ∙ set ∙ sym (bit_at-pow_same t)
          ∙ ap (bit_at (2 ^ t)) (sym e)
      each i (inr (inr gt)) =
          bit_at_above low (t + 1) i low_small (omega arith)
          ∙ sym (bit_at-pow_other t i (λ e. absurd (omega (arith, e))))

  n_is : n ≡ high * 2 ^ (t + 1) + 2 ^ t
  n_is = sym whole ∙ ap (λ m. high * 2 ^ (t + 1) + m) low_is

  less_is : n - 1 ≡ high * 2 ^ (t + 1) + (2 ^ t - 1)
  less_is = one_less n (high * 2 ^ (t + 1)) (2 ^ t) n_is (pow_pos t)

  above_same : (i : ℕ) → t < i → bit_at (n - 1) i ≡ bit_at n i
  above_same i gt =
      let smaller : 2 ^ t < 2 ^ (t + 1) = pow_below t (t + 1) (omega arith) in
      ap (λ m. bit_at m i) less_is
      ∙ bit_at_cat_high high (t + 1) (2 ^ t - 1) i (omega arith) (omega arith)
      ∙ sym (bit_at_cat_high high (t + 1) (2 ^ t) i (omega arith) (omega arith))
      ∙ ap (λ m. bit_at m i) (sym n_is)

  here_none : bit_at (n - 1) t ≡ 0
  here_none =
      ap (λ m. bit_at m t) less_is
      ∙ bit_at_cat_low high (t + 1) (2 ^ t - 1) t (omega arith)
      ∙ bit_at_ones_above t t (omega arith)

  kept_above : (i : ℕ) → t < i → bit (bit_and n (n - 1)) i ≡ bit n i
  kept_above i gt =
      and_bit n (n - 1) i
      ∙ ap (λ m. bit n i && nat_eq m 1) (above_same i gt)
      ∙ both_same (bit n i)

  cleared : (i : ℕ) → i < t + 1 → bit (bit_and n (n - 1)) i ≡ false
  cleared i lt = and_bit n (n - 1) i ∙ each (below_at_or_above i t)
    where
      each : (i < t) ⊎ (i ≡ t) ⊎ (t < i) → (bit n i && bit (n - 1) i) ≡ false
      each (inl before) = ap (λ m. nat_eq m 1 && bit (n - 1) i) (below i before)
      each (inr (inl e)) =
          ap (λ k. bit n i && bit (n - 1) k) e
          ∙ ap (λ m. bit n i && nat_eq m 1) here_none
          ∙ and_none (bit n i)
      each (inr (inr gt)) = absurd (omega arith)

-- a word that is not 0, and its lowest bit
module _ (word : ℕ) (some : 0 < word) (fits : word < 2 ^ 64) where
  pub lowest_within : trailing_zeros w64 word < 64
  lowest_within = (bit_at-trailing_zeros w64 word some fits).0

  pub lowest_set : bit word (trailing_zeros w64 word) ≡ true
  lowest_set = ap (λ m. nat_eq m 1) (bit_at-trailing_zeros w64 word some fits).1

  pub rest_above : (j : ℕ) → trailing_zeros w64 word < j
      → bit (bit_and word (word - 1)) j ≡ bit word j
  rest_above =
      let lowest = bit_at-trailing_zeros w64 word some fits in
      kept_above word (trailing_zeros w64 word) lowest.1 lowest.2

  pub rest_below : (j : ℕ) → j < trailing_zeros w64 word + 1
      → bit (bit_and word (word - 1)) j ≡ false
  rest_below =
      let lowest = bit_at-trailing_zeros w64 word some fits in
      cleared word (trailing_zeros w64 word) lowest.1 lowest.2

pub none_below : (word : ℕ) → word < 2 ^ 64 → (j : ℕ) → j < trailing_zeros w64 word
    → bit word j ≡ false
none_below word fits j lt = by (zero_or_some word)
  where
    by : (word ≡ 0) ⊎ (0 < word) → bit word j ≡ false
    by (inl e) = ap (λ n. bit n j) e ∙ bit_of_zero j
    by (inr some) = ap (λ m. nat_eq m 1) ((bit_at-trailing_zeros w64 word some fits).2 j lt)

-- the next bit that is set is a later one
later_by : (word rest : ℕ) → 0 < word → word < 2 ^ 64 → bit_and word (word - 1) ≡ rest
    → (rest ≡ 0) ⊎ (0 < rest) → trailing_zeros w64 word + 1 ≤ trailing_zeros w64 rest
later_by word rest some fits is (inl e) =
    let last : trailing_zeros w64 rest ≡ 64 = ap (trailing_zeros w64) e ∙ trailing_of_zero 64 in
    omega (arith, last, lowest_within word some fits)
later_by word rest some fits is (inr more) =
    let small : rest < 2 ^ 64 = omega (arith, is, and_le_r word (word - 1)) in
    let set = lowest_set rest more small in
    elim (cases_lt (trailing_zeros w64 rest) (trailing_zeros w64 word + 1)) [
      | inl lt ↦
          let clear : bit rest (trailing_zeros w64 rest) ≡ false =
          ap (λ n. bit n (trailing_zeros w64 rest)) (sym is)
          ∙ rest_below word some fits (trailing_zeros w64 rest) lt in
          absurd (cc)
      | inr le ↦ le
    ]

pub later : (word : ℕ) → 0 < word → word < 2 ^ 64
    → trailing_zeros w64 word + 1 ≤ trailing_zeros w64 (bit_and word (word - 1))
later word some fits =
    later_by word (bit_and word (word - 1)) some fits refl (zero_or_some (bit_and word (word - 1)))

pub all_set : (j : ℕ) → j < 64 → bit 18446744073709551615 j ≡ true
all_set j lt = ap (λ n. nat_eq n 1) (bit_at_ones 64 j lt)

-- how many bits are set
one_digit : (d : ℕ) → d < 2 → count_ones d ≡ cond (nat_eq d 1) 1 0
one_digit zero lt = ones-ones 0
one_digit (suc zero) lt = ones-ones 1
one_digit (suc (suc d)) lt = absurd (omega arith)

ones_below : (word n : ℕ) → count_ones (word % 2 ^ n) ≡ length (places (bit word) n)
ones_below word zero =
    let none : word % 2 ^ 0 ≡ 0 = omega arith in
    ap count_ones none ∙ ones-ones 0 ∙ sym (ap length (no_places (bit word)))
ones_below word (suc n) =
    let less : suc n ≡ 1 + n = omega arith in
    let more : suc n ≡ n + 1 = omega arith in
    ap (λ k. count_ones (word % 2 ^ k)) less
    ∙ ap count_ones (mod-pow-add word 1 n)
    ∙ ones_cat n (bit_at word n) (word % 2 ^ n) (mod-lt word (pow_pos n))
    ∙ (λ i. one_digit (bit_at word n) (bit_at-lt word n) i + ones_below word n i)
    ∙ one_more (bit word n) refl
    ∙ ap (λ k. length (places (bit word) k)) (sym more)
  where
    one_more : (b : Bool) → bit word n ≡ b
        → cond b 1 0 + length (places (bit word) n) ≡ length (places (bit word) (n + 1))
    one_more true set =
        omega (
          arith,
          ap length (next_place (bit word) n set),
          length_push (places (bit word) n) n,
        )
    one_more false clear = omega (arith, ap length (next_none (bit word) n clear))

pub ones_are_places : (word : ℕ) → word < 2 ^ 64
    → count_ones word ≡ length (places (bit word) 64)
ones_are_places word fits = ap count_ones (sym (mod-eq_of_lt fits)) ∙ ones_below word 64
