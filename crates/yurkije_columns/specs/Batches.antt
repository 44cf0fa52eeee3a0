-- The columns of a batch over the fields of a scope. A column that no answer reads is None.
use Rattle.std.specs.Prelude.{◌≡◌, ◌≢◌, ◌<◌, ℕ, List, length, Option, Some, None, slice_get, ⊤}
use Rattle.vortex_types.specs.LogicalTypes.{LogicalType, Fields, field_count, field_type}
use Rattle.vortex_columns.specs.ColumnView.{ColumnView, null_column}
use Rattle.vortex_arrow.specs.declared.column.ArrowColumn.{ArrowColumn}
use Rattle.vortex_arrow.specs.declared.error.ArrowError.TheVariants.{OutOfMemory}
use Rattle.vortex_arrow.specs.Layouts.{layout_of, layout_type}
use Rattle.vortex_arrow.specs.Columns.{arrow_column, IsWellFormed}
use Rattle.vortex_arrow.specs.Refusals.{TellsOf}
use Rattle.vortex_logical.specs.declared.kind.Kind.{Kind}
use Rattle.yurkije_columns.specs.Kinds.{values_number, number_at}
use Rattle.yurkije_columns.specs.declared.batch.ColumnFault.{ColumnFault}
use Rattle.yurkije_columns.specs.declared.batch.ColumnFault.TheVariants as fault
use Rattle.yurkije_columns.specs.declared.batch.ColumnError.{ColumnError}

abbrev pub type_borrowed : ArrowColumn → LogicalType
type_borrowed c = layout_type (layout_of c.values) c.nullable

-- the column is of that type, and its values mean what the number says
abbrev pub IsOf : LogicalType → ℕ → ArrowColumn → Type 0
IsOf t m c = (type_borrowed c ≡ t) × (values_number c.values ≡ m)

-- the column serves a field of that type and meaning, in a batch of n rows
pub record Serves (t : LogicalType) (m n : ℕ) (c : ArrowColumn) : Type 0 where
  pub dtype : type_borrowed c ≡ t
  pub means : values_number c.values ≡ m
  pub rows : c.length ≡ n
  pub buffers : IsWellFormed c

-- why a column does not
abbrev pub RefusesColumn : LogicalType → ℕ → ℕ → ArrowColumn → ColumnFault → Type 0
RefusesColumn t m n c fault.OtherType = ¬ IsOf t m c
RefusesColumn t m n c (fault.OtherLength rows) = IsOf t m c × (rows ≡ c.length) × (rows ≢ n)
RefusesColumn t m n c (fault.Unread e) = IsOf t m c × (c.length ≡ n) × TellsOf c e
RefusesColumn t m n c e = ⊥

-- the same of a column that may be unread: then it serves, whatever it holds
abbrev pub ServesIfRead : LogicalType → ℕ → ℕ → Option ArrowColumn → Type 0
ServesIfRead t m n None = ⊤
ServesIfRead t m n (Some c) = Serves t m n c

abbrev pub RefusesIfRead : LogicalType → ℕ → ℕ → Option ArrowColumn → ColumnFault → Type 0
RefusesIfRead t m n None e = ⊥
RefusesIfRead t m n (Some c) e = RefusesColumn t m n c e

-- the column that answers are computed over: what the buffers hold, or n nulls where none reads it
abbrev pub batch_column : ℕ → Option ArrowColumn → ColumnView
batch_column n None = null_column n
batch_column n (Some c) = arrow_column c

module _ (scope : Fields) (kinds : List Kind) (n : ℕ) (cs : List (Option ArrowColumn)) where
  -- of the first k columns each that is read serves its field
  abbrev pub FirstServe : ℕ → Type 0
  FirstServe k =
      (i : ℕ) → i < k → (c : ArrowColumn) → slice_get cs i ≡ Some (Some c)
      → Serves (field_type i scope) (number_at kinds i) n c

  -- there is a column for each field, and it serves if it is read
  pub record AllServe : Type 0 where
    pub each : length cs ≡ field_count scope
    pub serve : FirstServe (length cs)

  -- the first column that is read and does not serve its field
  pub record IsWrong (e : ColumnError) : Type 0 where
    pub each : length cs ≡ field_count scope
    pub column : ArrowColumn
    pub there : slice_get cs e.column ≡ Some (Some column)
    pub refused : RefusesColumn (field_type e.column scope) (number_at kinds e.column) n column
        e.fault
    pub before : FirstServe e.column

  -- why a batch is refused: there are fewer or more columns than fields, or one that is
  -- read does not serve; or memory ran out
  pub data RefusesBatch (e : ColumnError) : Type 0 where
    missing : e.fault ≡ fault.Missing → e.column ≡ length cs → length cs < field_count scope
        → RefusesBatch e
    unasked : e.fault ≡ fault.Unasked → e.column ≡ field_count scope
        → field_count scope < length cs → RefusesBatch e
    wrong : IsWrong e → RefusesBatch e
    without_memory : e.fault ≡ fault.Unread OutOfMemory → RefusesBatch e
