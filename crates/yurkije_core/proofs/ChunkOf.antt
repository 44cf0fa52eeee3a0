-- Some rows of a lent column are the same buffers with another offset and length.
use Rattle.std.specs.Borrow.{Bor}
use Rattle.std.proofs.Common.{◌≡◌, ℕ, ◌+◌, ◌<◌, ◌≤◌, Bool, true, false, cond, List, Option, Some}
use Rattle.std.proofs.Common.{None, refl, sym, ap, ◌∙◌, arith}
use Rattle.std.proofs.lemmas.List.FromFn.{get_or-map-range_with_len, length-map-range_with_len}
use Rattle.vortex_types.specs.Values.{Value, null}
use Rattle.vortex_bits.specs.Bits.{bit_of}
use Rattle.vortex_bits.proofs.Opened.{row_of_bits}
use Rattle.vortex_columns.specs.ColumnView.{row}
use Rattle.vortex_columns.specs.ValidityView.{ValidityView, is_valid_row}
use Rattle.vortex_arrow.specs.Layouts.{Layout, value_at}
use Rattle.vortex_arrow.specs.Columns.{column_from, validity_from}
use Rattle.vortex_program.specs.Rows.{HasRows}

abbrev said : Layout → ValidityView → ℕ → ℕ → Value
said l v from i = cond (is_valid_row v i) (value_at l (from + i)) null

row_from : (l : Layout) (v : ValidityView) (from n i : ℕ) → i < n
    → row (column_from l v from n).rows i ≡ said l v from i
row_from l v from n i lt = get_or-map-range_with_len (said l v from) 0 n i i null lt (omega arith)

module _ (l : Layout) (o n first count : ℕ) (within : first + count ≤ n) where
  valid_in : (v : Option (Bor (List ℕ))) (j : ℕ) → j < count
      → is_valid_row (validity_from true v (o + first) count) j
      ≡ is_valid_row (validity_from true v o n) (first + j)
  valid_in None j lt = refl
  valid_in (Some b) j lt =
      let place : (o + first) + j ≡ o + (first + j) = omega arith in
      row_of_bits b.now (o + first) count j lt
      ∙ ap (bit_of b.now) place
      ∙ sym (row_of_bits b.now o n (first + j) (omega (arith, lt, within)))

  valid_is : (b : Bool) (v w : Option (Bor (List ℕ))) → (b ≡ true → w ≡ v) → (j : ℕ) → j < count
      → is_valid_row (validity_from b w (o + first) count) j
      ≡ is_valid_row (validity_from b v o n) (first + j)
  valid_is false v w same j lt = refl
  valid_is true v w same j lt =
      ap (λ (x : Option (Bor (List ℕ))). is_valid_row (validity_from true x (o + first) count) j)
      (same refl)
      ∙ valid_in v j lt

  types : (b : Bool) (v w : Option (Bor (List ℕ))) → (b ≡ true → w ≡ v)
      → (column_from l (validity_from b w (o + first) count) (o + first) count).dtype
      ≡ (column_from l (validity_from b v o n) o n).dtype
  types false v w same = refl
  types true None None same = refl
  types true None (Some x) same = refl
  types true (Some x) None same = refl
  types true (Some x) (Some y) same = refl

  pub chunk_has : (b : Bool) (v w : Option (Bor (List ℕ))) → (b ≡ true → w ≡ v)
      → HasRows first count (column_from l (validity_from b v o n) o n)
      (column_from l (validity_from b w (o + first) count) (o + first) count)
  chunk_has b v w same = record {
    dtype = types b v w same;
    counted = length-map-range_with_len
        (said l (validity_from b w (o + first) count) (o + first)) 0 count;
    each = λ j lt.
        let place : (o + first) + j ≡ o + (first + j) = omega arith in
        row_from l (validity_from b w (o + first) count) (o + first) count j lt
        ∙ ap (λ x. cond x (value_at l ((o + first) + j)) null) (valid_is b v w same j lt)
        ∙ ap (λ p. cond (is_valid_row (validity_from b v o n) (first + j)) (value_at l p) null) place
        ∙ sym (row_from l (validity_from b v o n) o n (first + j) (omega (arith, lt, within)));
  }
