-- Places in words: those of the next word, and runs of them.
use Rattle.std.proofs.Common.{◌≡◌, ◌⊎◌, inl, inr, ℕ, zero, suc, ◌+◌, ◌-◌, ◌^◌, ◌<◌, ◌≤◌, Bool, true}
use Rattle.std.proofs.Common.{false, not, List, [], ◌∷◌, ◌++◌, length, refl, sym, ap, ◌∙◌, arith, ℤ, pos, map}
use Rattle.std.proofs.Common.{append_assoc, w64, bit_and}
use Rattle.std.specs.Int.{trailing_zeros}
use Rattle.std.specs.Int.Count.{trailing_of_zero}
use Rattle.std.specs.List.{range_with_len}
use Rattle.std.proofs.lemmas.Bool.{cases_lt}
use Rattle.std.proofs.lemmas.List.{length-append, length-map, map-append, map-id, append-nil}
use Rattle.std.proofs.lemmas.List.FromFn.{map-range_with_len_more, length-range_with_len}
use Rattle.std.proofs.lemmas.Simd.{map-map}
use Rattle.vortex_bits.specs.Bits.{bit}
use Rattle.vortex_arrow.specs.Written.{places}
use Rattle.vortex_arrow.proofs.Lowest.{zero_or_some, lowest_within, lowest_set, none_below}
use Rattle.vortex_arrow.proofs.Lowest.{rest_above, rest_below, bit_of_zero}
use Rattle.vortex_arrow.proofs.Places.{none_between, next_place, next_none, next_there}
use Rattle.vortex_arrow.proofs.Places.{places_from}

-- n places more from a place on, which a word has
module _ (test : ℕ → Bool) (from n word : ℕ) (few : n ≤ 64)
    (says : (j : ℕ) → j < n → bit word j ≡ test (from + j))
    (none : (j : ℕ) → n ≤ j → j < 64 → bit word j ≡ false) where
  pub places_more : places test (from + n)
      ≡ places test from ++ map (λ j. from + j) (places (bit word) 64)
  places_more =
      places_from test (bit word) from n says
      ∙ ap (λ xs. places test from ++ map (λ j. from + j) xs)
      (sym (none_between (bit word) n 64 few none))

  pub count_more : length (places test (from + n))
      ≡ length (places test from) + length (places (bit word) 64)
  count_more =
      ap length places_more
      ∙ length-append (places test from) (map (λ j. from + j) (places (bit word) 64))
      ∙ ap (λ m. length (places test from) + m) (length-map (places (bit word) 64) (λ j. from + j))

  pub numbers_more : {A : Type 0} (f : A → ℤ) (xs ys : List A)
      → map f xs ≡ map pos (places test from)
      → map f ys ≡ map f xs ++ map (λ j. pos (from + j)) (places (bit word) 64)
      → map f ys ≡ map pos (places test (from + n))
  numbers_more f xs ys so_far more =
      more
      ∙ ap (λ (zs : List ℤ). zs ++ map (λ j. pos (from + j)) (places (bit word) 64)) so_far
      ∙ ap (λ (zs : List ℤ). map pos (places test from) ++ zs)
      (sym (map-map pos (λ (j : ℕ). from + j) (places (bit word) 64)))
      ∙ sym (map-append pos (places test from) (map (λ j. from + j) (places (bit word) 64)))
      ∙ ap (map pos) (sym places_more)

pub range_more : (at d : ℕ) → range_with_len at (d + 1) ≡ range_with_len at d ++ (at + d) ∷ []
range_more at d =
    sym (map-id (range_with_len at (d + 1)))
    ∙ map-range_with_len_more (λ i. i) at d (at + d) refl
    ∙ ap (λ xs. xs ++ (at + d) ∷ []) (map-id (range_with_len at d))

-- places one after another
module _ (test : ℕ → Bool) (at : ℕ) where
  run_by : (d : ℕ) → ((i : ℕ) → at ≤ i → i < at + d → test i ≡ true)
      → places test (at + d) ≡ places test at ++ range_with_len at d
  run_by zero all =
      let same : at + 0 ≡ at = omega arith in
      ap (places test) same ∙ sym (append-nil (places test at))
  run_by (suc d) all =
      let more : at + suc d ≡ at + d + 1 = omega arith in
      let one : suc d ≡ d + 1 = omega arith in
      ap (places test) more
      ∙ next_place test (at + d) (all (at + d) (omega arith) (omega arith))
      ∙ ap (λ xs. xs ++ (at + d) ∷ []) (run_by d (λ i from lt. all i from (omega (arith, lt))))
      ∙ append_assoc (places test at) (range_with_len at d) ((at + d) ∷ [])
      ∙ ap (λ xs. places test at ++ xs) (sym (range_more at d))
      ∙ ap (λ k. places test at ++ range_with_len at k) (sym one)

  pub run : (to : ℕ) → at ≤ to → ((i : ℕ) → at ≤ i → i < to → test i ≡ true)
      → places test to ≡ places test at ++ range_with_len at (to - at)
  run to le all =
      let same : at + (to - at) ≡ to = omega arith in
      ap (places test) (sym same)
      ∙ run_by (to - at) (λ i from lt. all i from (omega (arith, same, lt)))

  pub run_length : (to : ℕ) → at ≤ to → ((i : ℕ) → at ≤ i → i < to → test i ≡ true)
      → length (places test to) ≡ length (places test at) + (to - at)
  run_length to le all =
      ap length (run to le all)
      ∙ length-append (places test at) (range_with_len at (to - at))
      ∙ ap (λ m. length (places test at) + m) (length-range_with_len at (to - at))

  -- their numbers after those so far
  pub run_numbers : (to first : ℕ) (before now all : List ℤ) → at ≤ to
      → ((i : ℕ) → at ≤ i → i < to → test i ≡ true)
      → now ≡ before ++ map (λ j. pos (first + j)) (places test at)
      → all ≡ now ++ map (λ j. pos (first + j)) (range_with_len at (to - at))
      → all ≡ before ++ map (λ j. pos (first + j)) (places test to)
  run_numbers to first before now all le set so_far more =
      more
      ∙ ap (λ (zs : List ℤ). zs ++ map (λ j. pos (first + j)) (range_with_len at (to - at))) so_far
      ∙ append_assoc before (map (λ j. pos (first + j)) (places test at))
      (map (λ j. pos (first + j)) (range_with_len at (to - at)))
      ∙ ap (λ (zs : List ℤ). before ++ zs)
      (sym (map-append (λ j. pos (first + j)) (places test at) (range_with_len at (to - at)))
      ∙ ap (map (λ j. pos (first + j))) (sym (run to le set)))

-- a bit is left while fewer are counted than are set, and none once all are
pub some_left : (word rest : ℕ)
    → length (places (bit word) (trailing_zeros w64 rest)) < length (places (bit word) 64)
    → 0 < rest
some_left word rest fewer = by (zero_or_some rest)
  where
    by : (rest ≡ 0) ⊎ (0 < rest) → 0 < rest
    by (inl e) =
        let last : trailing_zeros w64 rest ≡ 64 = ap (trailing_zeros w64) e ∙ trailing_of_zero 64 in
        absurd (omega (arith, fewer, ap (λ n. length (places (bit word) n)) last))
    by (inr some) = some

pub none_left : (word rest : ℕ) → rest < 2 ^ 64
    → ((j : ℕ) → trailing_zeros w64 rest ≤ j → j < 64 → bit rest j ≡ bit word j)
    → length (places (bit word) 64) ≤ length (places (bit word) (trailing_zeros w64 rest))
    → rest ≡ 0
none_left word rest fits same all = by (zero_or_some rest)
  where
    by : (rest ≡ 0) ⊎ (0 < rest) → rest ≡ 0
    by (inl e) = e
    by (inr some) =
        let t = trailing_zeros w64 rest in
        let here : bit word t ≡ true =
        sym (same t (omega arith) (lowest_within rest some fits)) ∙ lowest_set rest some fits in
        absurd (
        omega (
          arith,
          all,
          next_there (bit word) t 64 (lowest_within rest some fits) here,
        )
        )

from_not : (b : Bool) → false ≡ not b → b ≡ true
from_not true e = refl
from_not false e = absurd (cc)

to_not : (b : Bool) → true ≡ not b → b ≡ false
to_not true e = absurd (cc)
to_not false e = refl

-- the gaps of a word from a place on, of which the next one is the lowest
module _ (word gaps at : ℕ) (some : 0 < gaps) (fits : gaps < 2 ^ 64)
    (same : (j : ℕ) → at ≤ j → j < 64 → bit gaps j ≡ not (bit word j))
    (passed : (j : ℕ) → j < at → bit gaps j ≡ false) where
  pub gap_reached : at ≤ trailing_zeros w64 gaps
  gap_reached = by (cases_lt (trailing_zeros w64 gaps) at)
    where
      by : (trailing_zeros w64 gaps < at) ⊎ (at ≤ trailing_zeros w64 gaps)
          → at ≤ trailing_zeros w64 gaps
      by (inl lt) =
          let clear = passed (trailing_zeros w64 gaps) lt in
          let set = lowest_set gaps some fits in
          absurd (cc)
      by (inr le) = le

  pub gap_full : (j : ℕ) → at ≤ j → j < trailing_zeros w64 gaps → bit word j ≡ true
  gap_full j le lt =
      from_not (bit word j)
      (sym (none_below gaps fits j lt)
      ∙ same j le (omega (arith, lt, lowest_within gaps some fits)))

  pub gap_clear : bit word (trailing_zeros w64 gaps) ≡ false
  gap_clear =
      to_not (bit word (trailing_zeros w64 gaps))
      (sym (lowest_set gaps some fits)
      ∙ same (trailing_zeros w64 gaps) gap_reached (lowest_within gaps some fits))

  pub gaps_left : (j : ℕ) → trailing_zeros w64 gaps + 1 ≤ j → j < 64
      → bit (bit_and gaps (gaps - 1)) j ≡ not (bit word j)
  gaps_left j le lt =
      rest_above gaps some fits j (omega (arith, le))
      ∙ same j (omega (arith, le, gap_reached)) lt

  pub gaps_passed : (j : ℕ) → j < trailing_zeros w64 gaps + 1
      → bit (bit_and gaps (gaps - 1)) j ≡ false
  gaps_passed = rest_below gaps some fits

  pub gap_count : length (places (bit word) (trailing_zeros w64 gaps + 1))
      ≡ length (places (bit word) at) + (trailing_zeros w64 gaps - at)
  gap_count =
      ap length (next_none (bit word) (trailing_zeros w64 gaps) gap_clear)
      ∙ run_length (bit word) at (trailing_zeros w64 gaps) gap_reached gap_full

-- there are no gaps
pub all_full : (word gaps at : ℕ) → gaps ≡ 0
    → ((j : ℕ) → at ≤ j → j < 64 → bit gaps j ≡ not (bit word j))
    → (j : ℕ) → at ≤ j → j < 64 → bit word j ≡ true
all_full word gaps at none same j le lt =
    from_not (bit word j) (sym (ap (λ n. bit n j) none ∙ bit_of_zero j) ∙ same j le lt)
