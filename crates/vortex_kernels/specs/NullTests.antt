-- Truth values given row by row, and the null tests of a column.
use Rattle.std.specs.Prelude.{◌≢◌, ℕ, length, Bool, false, not, IsSome}
use Rattle.vortex_types.specs.LogicalTypes.{bool_type}
use Rattle.vortex_types.specs.Values.{Value, truth, is_null}
use Rattle.vortex_columns.specs.ColumnView.{ColumnView, row}
use Rattle.vortex_columns.specs.ValidityView.{array}
use Rattle.vortex_kernels.specs.Rows.{HasRows}

-- non-nullable Bool of these truth values
abbrev pub HasTruths : ℕ → (ℕ → Bool) → ColumnView → Type 0
HasTruths n f = HasRows (bool_type false) n (λ i. truth (f i))

-- in each row the test's result for the input's row
abbrev pub HasTests : (Value → Bool) → ColumnView → ColumnView → Type 0
HasTests test c = HasTruths (length c.rows) (λ i. test (row c.rows i))

-- whether each row is null
abbrev pub HasNullTests : ColumnView → ColumnView → Type 0
HasNullTests = HasTests is_null

-- whether each row is not null
abbrev pub HasNotNullTests : ColumnView → ColumnView → Type 0
HasNotNullTests = HasTests (λ v. not (is_null v))

-- constant, unless nulls are given row by row
abbrev pub IsConstantUnlessListed : ColumnView → ColumnView → Type 0
IsConstantUnlessListed c d = c.form ≢ array → IsSome d.constant
