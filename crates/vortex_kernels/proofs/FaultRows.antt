-- Rows that fault, searched among bits.
use Rattle.std.proofs.Common.{◌≡◌, ◌⊎◌, inl, inr, ℕ, ◌+◌, ◌*◌, ◌-◌, ◌^◌, ◌<◌, Bool, true}
use Rattle.std.proofs.Common.{false, Option, Some, None, List, length, refl, sym, ap, ◌∙◌, arith}
use Rattle.std.proofs.Common.{zero-add}
use Rattle.std.proofs.Common.{bit_and, w64, nat_eq, subst}
use Rattle.std.proofs.lemmas.Bool.{cases_lt}
use Rattle.std.specs.Prelude.{ℤ, not, ◌&&◌, ◌||◌, slice_index_or}
use Rattle.std.specs.Int.{trailing_zeros}
use Rattle.std.proofs.lemmas.Nat.Bits.{bit_at-zero, bit_at-trailing_zeros}
use Rattle.vortex_bits.specs.Bits.{bit}
use Rattle.vortex_bits.specs.Rows.{AreRows}
use Rattle.vortex_bits.proofs.Opened.{past}
use Rattle.vortex_bits.proofs.WordLogic.{and_bit}
use Rattle.vortex_types.specs.declared.dtype.PType.{PType}
use Rattle.vortex_types.specs.Typing.{least_of, greatest_of}
use Rattle.vortex_types.specs.Values.{is_null}
use Rattle.vortex_columns.specs.ColumnView.{ColumnView, row}
use Rattle.vortex_columns.specs.ValidityView.{ValidityView, is_valid_row}
use Rattle.vortex_kernels.specs.ArithmeticIntegers.{FitsResult}
use Rattle.vortex_columns.specs.ValidRows.{IsJointValidity}
use Rattle.vortex_kernels.specs.Numeric.{IsValidPair}
use Rattle.vortex_kernels.specs.Faults.{is_faulty, IsOfBoth, FindsBoth, FindsFault}
use Rattle.vortex_kernels.proofs.Calculating.{within_not, inside_is}

-- the test is whether the integer type does not hold the result
fits_unless : (p : PType) (o : Option ℤ) → is_faulty p o ≡ false → FitsResult p o
fits_unless p None e = cc
fits_unless p (Some z) e = inside_is (least_of p) (greatest_of p) z e

fault_not : (p : PType) (o : Option ℤ) → is_faulty p o ≡ true → ¬ FitsResult p o
fault_not p None e fits = fits
fault_not p (Some z) e fits =
    let held : is_faulty p (Some z) ≡ false = within_not (least_of p) (greatest_of p) z fits in
    cc

-- the result of a search, for tests that agree on the first n
finds_same : (n : ℕ) (f f' h h' : ℕ → Bool) → ((i : ℕ) → i < n → f i ≡ f' i)
    → ((i : ℕ) → i < n → h i ≡ h' i) → (o : Option ℕ) → FindsBoth n f h o → FindsBoth n f' h' o
finds_same n f f' h h' e d None none = λ i w.
    none i
    (record {
      inside = w.inside;
      left = e i w.inside ∙ w.left;
      right = d i w.inside ∙ w.right;
    })
finds_same n f f' h h' e d (Some i) w = record {
  inside = w.inside;
  left = sym (e i w.inside) ∙ w.left;
  right = sym (d i w.inside) ∙ w.right;
}

-- the result of a search in whole borrowed lists
pub finds_listed : (bits valid s v : List Bool) (w : ValidityView) (m n : ℕ) (o : Option ℕ)
    → AreRows m (λ i. slice_index_or bits (0 + i) false) s → m ≡ length bits
    → AreRows n (λ i. slice_index_or valid (0 + i) false) v → n ≡ length valid
    → length valid ≡ length bits → ((i : ℕ) → slice_index_or valid i false ≡ is_valid_row w i)
    → FindsBoth (length s) (λ i. slice_index_or s i false) (λ i. slice_index_or v i false) o
    → FindsBoth (length bits) (λ i. slice_index_or bits i false) (is_valid_row w) o
finds_listed bits valid s v w m n o on_bits all_bits on_valid all_valid fits same found =
    finds_same (length bits) (λ i. slice_index_or s i false) (λ i. slice_index_or bits i false)
    (λ i. slice_index_or v i false) (is_valid_row w)
    (λ i lt.
    on_bits.each i (omega (arith, all_bits, lt))
    ∙ ap (λ k. slice_index_or bits k false) (zero-add i))
    (λ i lt.
    on_valid.each i (omega (arith, all_valid, fits, lt))
    ∙ ap (λ k. slice_index_or valid k false) (zero-add i)
    ∙ same i)
    o
    (subst
    (λ k. FindsBoth k (λ i. slice_index_or s i false) (λ i. slice_index_or v i false) o)
    (on_bits.count ∙ all_bits) found)

-- an index in word k, if there is none before
place_of : (k i : ℕ) → i < 64 * (k + 1)
    → (i < 64 * k) ⊎ ((j : ℕ) × (j < 64) × (i ≡ 64 * k + j))
place_of k i lt = elim (cases_lt i (64 * k)) [
  | inl before ↦ inl before
  | inr from ↦ inr (i - 64 * k, omega arith, omega arith)
]

both_set : (a b : Bool) → (a && b) ≡ true → (a ≡ true) × (b ≡ true)
both_set true true e = (refl, refl)
both_set true false e = cc
both_set false b e = cc

neither : (a b : Bool) → not (a || b) ≡ true → (a ≡ false) × (b ≡ false)
neither false false e = (refl, refl)
neither false true e = cc
neither true b e = cc

bit_of_zero : (j : ℕ) → bit 0 j ≡ false
bit_of_zero j = ap (λ n. nat_eq n 1) (bit_at-zero j)

-- an index whose bit is set is in the list
inside_where_set : (s : List Bool) (i : ℕ) → slice_index_or s i false ≡ true → i < length s
inside_where_set s i set = elim (cases_lt i (length s)) [
  | inl lt ↦ lt
  | inr le ↦ let clear = past s i le in cc
]

-- 64 items of two lists, read as words
module _ (left right : List Bool) (k a b : ℕ)
    (on_left : (j : ℕ) → j < 64 → bit a j ≡ slice_index_or left (64 * k + j) false)
    (on_right : (j : ℕ) → j < 64 → bit b j ≡ slice_index_or right (64 * k + j) false)
  where
    -- no index is set in both where the words have no bit in common
    pub none_more : bit_and a b ≡ 0
        → ((i : ℕ) → ¬ IsOfBoth (64 * k) (λ i. slice_index_or left i false)
        (λ i. slice_index_or right i false) i)
        → (i : ℕ) → ¬ IsOfBoth (64 * (k + 1)) (λ i. slice_index_or left i false)
        (λ i. slice_index_or right i false) i
    none_more apart none i w = elim (place_of k i w.inside) [
      | inl before ↦ none i (record { inside = before; left = w.left; right = w.right })
      | inr at ↦
          let j = at.0 in
          let l : bit a j ≡ true =
          on_left j at.1 ∙ ap (λ p. slice_index_or left p false) (sym at.2) ∙ w.left in
          let r : bit b j ≡ true =
          on_right j at.1 ∙ ap (λ p. slice_index_or right p false) (sym at.2) ∙ w.right in
          let clear : bit (bit_and a b) j ≡ false = ap (λ n. bit n j) apart ∙ bit_of_zero j in
          let joined : bit (bit_and a b) j ≡ (bit a j && bit b j) = and_bit a b j in
          let set : (bit a j && bit b j) ≡ true = (λ q. l q && r q) in
          cc
    ]

    -- the lowest common bit is an index that is set in both
    pub found_in_word : (n : ℕ) → 0 < bit_and a b → bit_and a b < 2 ^ 64
        → length left ≡ n
        → IsOfBoth n (λ i. slice_index_or left i false) (λ i. slice_index_or right i false)
        (64 * k + trailing_zeros w64 (bit_and a b))
    found_in_word n some small count =
        let lowest = bit_at-trailing_zeros w64 (bit_and a b) some small in
        let j = trailing_zeros w64 (bit_and a b) in
        let set : bit (bit_and a b) j ≡ true = ap (λ m. nat_eq m 1) lowest.1 in
        let each = both_set (bit a j) (bit b j) (sym (and_bit a b j) ∙ set) in
        let l : slice_index_or left (64 * k + j) false ≡ true =
        sym (on_left j lowest.0) ∙ each.0 in
        record {
          inside = subst (λ m. 64 * k + j < m) count (inside_where_set left (64 * k + j) l);
          left = l;
          right = sym (on_right j lowest.0) ∙ each.1;
        }

-- a row that faults, found among rows with a bit for each that faults
pub finds_fault : (p : PType) (exact : ℕ → Option ℤ) (l r : ColumnView) (nullable : Bool)
    (v : ValidityView) (bits : List Bool) (o : Option ℕ)
    → AreRows (length l.rows) (λ i. is_faulty p (exact i)) bits → IsJointValidity nullable l r v
    → FindsBoth (length bits) (λ i. slice_index_or bits i false) (is_valid_row v) o
    → FindsFault p exact l r o
finds_fault p exact l r nullable v bits None are h none =
    λ i lt valid. by i lt valid (is_faulty p (exact i)) refl
  where
    pair : (a b : Bool) → a ≡ false → b ≡ false → not (a || b) ≡ true
    pair a b e d = λ j. not (e j || d j)

    by : (i : ℕ) → i < length l.rows → IsValidPair l r i → (b : Bool)
        → is_faulty p (exact i) ≡ b → FitsResult p (exact i)
    by i lt valid false e = fits_unless p (exact i) e
    by i lt valid true e =
        absurd
        (none i
        (record {
          inside = omega (arith, are.count, lt);
          left = are.each i lt ∙ e;
          right =
              h.each i lt
              ∙ pair (is_null (row l.rows i)) (is_null (row r.rows i)) valid.0 valid.1;
        }))
finds_fault p exact l r nullable v bits (Some i) are h w =
    let lt : i < length l.rows = omega (arith, are.count, w.inside) in
    record {
      inside = lt;
      valid =
          neither (is_null (row l.rows i)) (is_null (row r.rows i)) (sym (h.each i lt) ∙ w.right);
      fault = fault_not p (exact i) (sym (are.each i lt) ∙ w.left);
    }
