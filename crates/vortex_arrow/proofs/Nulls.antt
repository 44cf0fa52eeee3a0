-- The nulls of a column that is not nullable, told by its bits.
use Rattle.std.specs.Borrow.{Bor}
use Rattle.std.proofs.Common.{◌≡◌, ℕ, ◌+◌, ◌<◌, Bool, true, false, List, length, sym, ap, ◌∙◌}
use Rattle.std.proofs.Common.{subst, arith}
use Rattle.std.specs.Prelude.{slice_index_or, Option, Some, None}
use Rattle.vortex_bits.specs.Bits.{bit_of, bits_from}
use Rattle.vortex_bits.proofs.Opened.{row_of_bits, count_of_bits}
use Rattle.vortex_columns.specs.ValidityView.{FitsRows}
use Rattle.vortex_arrow.specs.declared.column.ArrowColumn.{ArrowColumn}
use Rattle.vortex_arrow.specs.Columns.{validity_from, IsValidIn}
use Rattle.vortex_arrow.specs.Refusals.{IsFirstMisfit, RowMayBeNull}

module _ (c : ArrowColumn) (b : Bor (List ℕ)) (bs : List Bool) (is : c.validity ≡ Some b)
    (never : c.nullable ≡ false) (bs_are : bs ≡ bits_from b.now c.offset c.length) where
  count : length bs ≡ c.length
  count = ap length bs_are ∙ count_of_bits b.now c.offset c.length

  row_bit : (i : ℕ) → i < c.length → slice_index_or bs i false ≡ bit_of b.now (c.offset + i)
  row_bit i lt =
      ap (λ (l : List Bool). slice_index_or l i false) bs_are
      ∙ row_of_bits b.now c.offset c.length i lt

  is_valid : (i : ℕ) → i < c.length → slice_index_or bs i false ≡ true → RowMayBeNull c i
  is_valid i lt set n =
      subst (λ (v : Option (Bor (List ℕ))). IsValidIn v (c.offset + i)) (sym is)
      (sym (row_bit i lt) ∙ set)

  pub null_found : (r : ℕ)
      → IsFirstMisfit (length bs) (λ i. slice_index_or bs i false ≡ true) r
      → IsFirstMisfit c.length (RowMayBeNull c) r
  null_found r first =
      let lt : r < c.length = omega (arith, first.within, count) in
      record {
        within = lt;
        misfit = λ h. first.misfit
            (row_bit r lt
            ∙ subst (λ (v : Option (Bor (List ℕ))). IsValidIn v (c.offset + r)) is (h never));
        before = λ i below. is_valid i (omega (arith, lt, below)) (first.before i below);
      }

  pub none_found : ((i : ℕ) → i < length bs → slice_index_or bs i false ≡ true)
      → (i : ℕ) → i < c.length → RowMayBeNull c i
  none_found all i lt = is_valid i lt (all i (omega (arith, lt, count)))

pub validity_fits : (nullable : Bool) (b : Option (Bor (List ℕ))) (from n : ℕ)
    → FitsRows (validity_from nullable b from n) n
validity_fits false b from n = tt
validity_fits true None from n = tt
validity_fits true (Some b) from n = count_of_bits b.now from n
