-- Items that were read, with a blank under each null, and the column made of them.
use Rattle.std.specs.Int.{w128}
use Rattle.std.specs.List.{range_with_len}
use Rattle.std.specs.Prelude.{◌≡◌, ℤ, MatchOption, FitsSigned, ℕ, ◌<◌, ◌+◌, ◌*◌, Bool, true, false}
use Rattle.std.specs.Prelude.{Option, Some, None, List, [], ◌∷◌, length, map, slice_index_or}
use Rattle.std.specs.Prelude.{option_map, if◌then◌else◌}
use Rattle.std.specs.Borrow.{Bor}
use Rattle.vortex_types.specs.LogicalTypes.{LogicalType}
use Rattle.vortex_types.specs.Values.{Value, null}
use Rattle.vortex_columns.specs.ValidityView.{ValidityView, is_valid_row, form_allows_null}
use Rattle.vortex_columns.specs.ValidityView.{non_nullable, array}
use Rattle.vortex_columns.specs.ColumnView.{ColumnView, row}
use Rattle.vortex_cells.specs.CellValues.{text_bytes}

-- the borrowed cell
abbrev pub cell_in : Option (Bor (List ℕ)) → Option (List ℕ)
cell_in = option_map (λ b. b.now)

-- the value of an item, and null for none
abbrev pub item_or_null : {X : Type 0} → (X → Value) → Option X → Value
item_or_null f None = null
item_or_null f (Some x) = f x

-- null if an item is not valid
abbrev pub cells_from : List Value → List Bool → List Value
cells_from (v ∷ vs) (b ∷ bs) = (if b then v else null) ∷ cells_from vs bs
cells_from vs bs = []

-- a column of a value for each row, with its validity
pub record IsMade (kind : Bool → LogicalType) (v : ValidityView) (vs : List Value)
    (c : ColumnView) : Type 0 where
  pub dtype : c.dtype ≡ kind (form_allows_null v.form)
  pub count : length c.rows ≡ length vs
  pub each : (i : ℕ) → i < length vs
      → row c.rows i ≡ (if is_valid_row v i then slice_index_or vs i null else null)
  pub computed : c.constant ≡ None
  pub form : c.form ≡ v.form

-- values with marks: each is valid unless null is allowed, and texts under a null are empty
pub record AreItems (n : Bool) (vs : List Value) (valid : List Bool) : Type 0 where
  pub count : length valid ≡ length vs
  pub plain : n ≡ false → (i : ℕ) → i < length valid → slice_index_or valid i true ≡ true
  pub texts : map text_bytes (cells_from vs valid) ≡ map text_bytes vs

-- the values of the cells
pub record AreCells (n : Bool) (vs : List Value) (valid : List Bool)
    (said : Option (List Value)) : Type 0 where
  pub says : said ≡ Some (cells_from vs valid)
  pub items : AreItems n vs valid

-- which rows are valid, if null is allowed
abbrev pub cells_validity : Bool → List Bool → ValidityView
cells_validity false valid = record { form = non_nullable; bits = [] }
cells_validity true valid = record { form = array; bits = valid }

-- the cell of column j in row i, for rows of w cells, and those of the first n rows
abbrev pub cell_apart : List (Option (List ℕ)) → ℕ → ℕ → ℕ → Option (List ℕ)
cell_apart cs w j i = slice_index_or cs (i * w + j) None

abbrev pub cells_apart : List (Option (List ℕ)) → ℕ → ℕ → ℕ → List (Option (List ℕ))
cells_apart cs w n j = map (cell_apart cs w j) (range_with_len 0 n)

-- the number of a word is read, unless it has more than 128 bits
abbrev pub ReadsNumber : Option ℤ → Option ℤ → Type 0
ReadsNumber said read =
    MatchOption read ((z : ℤ) → said ≡ Some z → ¬ FitsSigned w128 z) (λ z. said ≡ Some z)
