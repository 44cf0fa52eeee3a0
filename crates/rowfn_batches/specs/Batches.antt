-- What the fields of a batch, which are row by row, make of the columns that are declared.
use Rattle.std.specs.Prelude.{◌≡◌, ◌+◌, ◌*◌, ◌%◌, ◌<◌, ◌≤◌, ℕ, List, length, map, Bool, true, false}
use Rattle.std.specs.Prelude.{get_or}
use Rattle.std.specs.Prelude.{Option, Some, None, Result, MatchResult, slice_index_or, ⊤}
use Rattle.std.specs.declared.alloc.Global.{Global}
use Rattle.std.specs.Prelude.{Vec}
use Rattle.std.specs.List.{range_with_len}
use Rattle.vortex_types.specs.LogicalTypes.{Fields, field_count, field_type}
use Rattle.vortex_columns.specs.ColumnView.{ColumnView}
use Rattle.vortex_cells.specs.Cells.{cells_apart}
use Rattle.vortex_logical.specs.declared.kind.Kind.{Kind}
use Rattle.vortex_logical_cells.specs.StoredFields.{column_of_kind, fits_kind}
use Rattle.vortex_expressions.specs.Calls.{kind_at}
use Rattle.rowfn_batches.specs.declared.columns.FieldsError.{FieldsError}
use Rattle.rowfn_batches.specs.declared.columns.FieldsError.TheVariants.{Misfit, TextsTooLong}
use Rattle.rowfn_batches.specs.declared.columns.FieldsError.TheVariants.{Uneven, OutOfMemory}
use Rattle.rowfn_batches.specs.Fields.{Field}

abbrev pub field_at : List Field → ℕ → Field
field_at fs k = slice_index_or fs k None

-- columns have these types, and kinds by place: the field is a value of column j
abbrev pub fits_column : Fields → List Kind → ℕ → Field → Bool
fits_column ds ks j f = fits_kind (kind_at ks j) (field_type j ds) f

module _ (ds : Fields) (ks : List Kind) (fs : List Field) where
  -- the k-th field is a value of its column
  abbrev pub fits_at : ℕ → Bool
  fits_at k = fits_column ds ks (k % field_count ds) (field_at fs k)

  abbrev pub AllFit : Type 0
  AllFit = (k : ℕ) → k < length fs → fits_at k ≡ true

  pub record IsFirstMisfit (k : ℕ) : Type 0 where
    pub below : k < length fs
    pub misfit : fits_at k ≡ false
    pub before : (i : ℕ) → i < k → fits_at i ≡ true

  -- the field of that row and column is
  pub record IsMisfit (row column : ℕ) : Type 0 where
    pub below : column < field_count ds
    pub first : IsFirstMisfit (row * field_count ds + column)

  -- the field of that row and column fits
  abbrev pub fits_in : ℕ → ℕ → Bool
  fits_in row column = fits_at (row * field_count ds + column)

  module _ (places : List ℕ) (row : ℕ) where
    -- of the first n columns it is the one that stands first in the input, of those whose field of
    -- that row does not fit: each column has its place there
    pub record IsLeftmostOf (n column : ℕ) : Type 0 where
      pub below : column < field_count ds
      pub misfit : fits_in row column ≡ false
      pub leftmost : (j : ℕ) → j < n → fits_in row j ≡ false
          → get_or places column 0 ≤ get_or places j 0

    -- the leftmost field that does not fit, in the first row that has one
    pub record IsLeftmost (column : ℕ) : Type 0 where
      pub within : row * field_count ds + column < length fs
      pub before : (k : ℕ) → k < row * field_count ds → fits_at k ≡ true
      pub here : IsLeftmostOf (field_count ds) column

  module _ (n : ℕ) where
    -- the column that the fields of column j say
    abbrev pub column_at : ℕ → Option ColumnView
    column_at j =
        column_of_kind (kind_at ks j) (field_type j ds) (cells_apart fs (field_count ds) n j)

    -- the columns of the first k
    abbrev pub AreColumns : ℕ → List ColumnView → Type 0
    AreColumns k cs = map Some cs ≡ map column_at (range_with_len 0 k)

    -- as many fields as n rows have
    abbrev pub AreEven : Type 0
    AreEven = length fs ≡ field_count ds * n

    -- each field fits, but column j has no room for its texts, or a type that no cells have; it is
    -- the first such column
    pub record IsTooLong (j : ℕ) : Type 0 where
      pub below : j < field_count ds
      pub fit : AllFit
      pub said : column_at j ≡ None
      pub columns : List ColumnView
      pub before : AreColumns j columns

    abbrev pub RefusesBatch : FieldsError → Type 0
    RefusesBatch (Misfit row column) = AreEven × IsMisfit row column
    RefusesBatch (TextsTooLong column) = AreEven × IsTooLong column
    RefusesBatch Uneven = ¬ AreEven
    RefusesBatch OutOfMemory = ⊤

    -- the columns of the fields; or why there are none
    abbrev pub ReadsColumns : Result (Vec ColumnView Global) FieldsError → Type 0
    ReadsColumns result =
        MatchResult result (λ cs. AreEven × AreColumns (field_count ds) cs.items) RefusesBatch
