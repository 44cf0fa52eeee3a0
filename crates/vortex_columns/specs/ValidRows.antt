-- Which rows of one column are not null, and of two.
use Rattle.std.specs.Prelude.{◌≡◌, ◌||◌, ℕ, ◌<◌, List, [], length, Bool, not}
pub use Rattle.vortex_errors.specs.Answers.{AnswersUnlessMemory}
use Rattle.vortex_types.specs.LogicalTypes.{is_nullable}
use Rattle.vortex_types.specs.Values.{Value, is_null}
use Rattle.vortex_columns.specs.ValidityView.{ValidityView, all_valid, all_invalid, array}
use Rattle.vortex_columns.specs.ValidityView.{form_allows_null, is_valid_row, FitsRows}
use Rattle.vortex_columns.specs.ColumnView.{ColumnView, row}
use Rattle.vortex_columns.specs.declared.valid_rows.ValidRows.{ValidRows}
use Rattle.vortex_columns.specs.declared.valid_rows.ValidRows.TheVariants.{Every, No, Listed}

abbrev pub valid_view : ValidRows → ValidityView
valid_view Every = record { form = all_valid; bits = [] }
valid_view No = record { form = all_invalid; bits = [] }
valid_view (Listed bits) = record { form = array; bits = bits.now }

-- given by a list of bits
abbrev pub IsListed : ValidRows → Type 0
IsListed (Listed bits) = Unit {0}
IsListed v = ⊥

-- marks exactly the null rows
pub record AreValid (v : ValidityView) (rows : List Value) : Type 0 where
  pub fits : FitsRows v (length rows)
  pub each : (i : ℕ) → i < length rows → is_valid_row v i ≡ not (is_null (row rows i))

-- is valid for n rows of a type that has null or not, of which these are valid
pub record IsValidity (nullable : Bool) (n : ℕ) (valid : ℕ → Bool) (v : ValidityView) : Type 0 where
  pub nullability : form_allows_null v.form ≡ nullable
  pub fits : FitsRows v n
  pub each : (i : ℕ) → i < n → is_valid_row v i ≡ valid i

-- the rows of a column that are not null, for a type that has null or not, and for its own
abbrev pub IsValidityIn : Bool → ColumnView → ValidityView → Type 0
IsValidityIn nullable c = IsValidity nullable (length c.rows) (λ i. not (is_null (row c.rows i)))

abbrev pub IsValidityOf : ColumnView → ValidityView → Type 0
IsValidityOf c = IsValidityIn (is_nullable c.dtype) c

-- the rows that are null on neither side, of a type that has null or not
abbrev pub IsJointValidity : Bool → ColumnView → ColumnView → ValidityView → Type 0
IsJointValidity nullable l r =
    IsValidity nullable (length l.rows)
    (λ i. not (is_null (row l.rows i) || is_null (row r.rows i)))

-- is valid for the same row counts, with the same valid rows
pub record IsAsValid (v w : ValidityView) : Type 0 where
  pub fits : (n : ℕ) → FitsRows v n → FitsRows w n
  pub each : (i : ℕ) → is_valid_row w i ≡ is_valid_row v i

-- whether either side is nullable
abbrev pub either_nullable : ColumnView → ColumnView → Bool
either_nullable l r = is_nullable l.dtype || is_nullable r.dtype
