-- Columns by their runs of equal rows.
use Rattle.std.specs.Prelude.{◌≡◌, ℕ, List, nat_le, map, None, not, length, Bool, false}
use Rattle.std.specs.List.{count_by, range_with_len}
use Rattle.vortex_types.specs.LogicalTypes.{is_nullable}
use Rattle.vortex_types.specs.ScalarView.{ScalarView}
use Rattle.vortex_types.specs.Values.{Value, truth, is_null}
use Rattle.vortex_columns.specs.ColumnView.{ColumnView, row, constant_column}
use Rattle.vortex_columns.specs.ValidityView.{ValidityView, array}
use Rattle.vortex_kernels.specs.Rows.{HasRows}
use Rattle.vortex_columns.specs.ValidRows.{IsValidity}

-- how many runs begin at the row or before it, the first, which begins at row 0, not counted
abbrev pub run_at : List ℕ → ℕ → ℕ
run_at starts i = count_by (λ start. nat_le start i) starts

-- in each of n rows the value of the row's run
abbrev pub HasRunRows : ColumnView → List ℕ → ℕ → ColumnView → Type 0
HasRunRows values starts n = HasRows values.dtype n (λ i. row values.rows (run_at starts i))

abbrev pub IsRunValidity : ColumnView → List ℕ → ℕ → ValidityView → Type 0
IsRunValidity values starts n =
    IsValidity (is_nullable values.dtype) n (λ i. not (is_null (row values.rows (run_at starts i))))

-- the column that runs stand for
abbrev pub run_column : ColumnView → List ℕ → ℕ → ColumnView
run_column values starts n =
    record {
      dtype = values.dtype;
      rows = map (λ i. row values.rows (run_at starts i)) (range_with_len 0 n);
      constant = None;
      form = array;
    }

abbrev pub is_true : Value → Bool
is_true (truth b) = b
is_true v = false

-- a constant column of that scalar
abbrev pub IsConstantOfScalar : ColumnView → ScalarView → Type 0
IsConstantOfScalar c s = c ≡ constant_column s (length c.rows)
