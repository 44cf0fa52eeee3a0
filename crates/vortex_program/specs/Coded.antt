-- Rows that are executed alone, and which of them each row of a column is like.
use Rattle.std.specs.Prelude.{◌≡◌, ◌⊎◌, ℕ, ◌<◌, Bool, true, false, List, length, All}
use Rattle.std.specs.Prelude.{slice_index_or}
use Rattle.vortex_types.specs.Values.{truth}
use Rattle.vortex_columns.specs.ColumnView.{ColumnView, row}
use Rattle.vortex_columns.specs.ValidityView.{ValidityView, is_valid_row}
use Rattle.vortex_program.specs.Rows.{numbered}

-- a row has this bit, and is not null
abbrev pub HasBit : Bool → List Bool → ValidityView → ℕ → Type 0
HasBit b bits v i = (slice_index_or bits i false ≡ b) × (is_valid_row v i ≡ true)

-- the number at the code's place is the row's own, or that of a row which is, as it is, this truth
-- value
abbrev pub HasCode : Bool → ColumnView → List ℕ → ℕ → ℕ → Type 0
HasCode b c numbers i code =
    (numbered numbers code ≡ i)
    ⊎ ((row c.rows i ≡ truth b) × (row c.rows (numbered numbers code) ≡ truth b))

-- the first n rows have codes, and the numbers are those of rows
pub record HaveCodes (b : Bool) (c : ColumnView) (numbers codes : List ℕ) (n : ℕ) : Type 0 where
  pub rows : All (λ k. k < length c.rows) numbers
  pub counted : length codes ≡ n
  pub coded : All (λ j. j < length numbers) codes
  pub each : (i : ℕ) → i < n → HasCode b c numbers i (slice_index_or codes i 0)
