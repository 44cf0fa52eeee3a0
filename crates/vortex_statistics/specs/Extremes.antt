-- A least and a greatest of the rows that count.
use Rattle.std.specs.Prelude.{◌≡◌, ◌<◌, ℕ, Bool, true, false, not, List, length}
use Rattle.std.specs.Prelude.{if◌then◌else◌}
use Rattle.std.specs.Ordering.{is_gt}
use Rattle.vortex_types.specs.Order.{compare_values}
use Rattle.vortex_types.specs.LogicalTypes.{LogicalType, bool_type, integer_type, text_type}
use Rattle.vortex_types.specs.LogicalTypes.{bytes_type}
use Rattle.vortex_types.specs.Values.{Value, is_null}
use Rattle.vortex_columns.specs.ColumnView.{row}
use Rattle.vortex_statistics.specs.StatisticsView.{is_at_most}

-- one of the first n rows, which counts
pub record IsCounted (n : ℕ) (counts : ℕ → Bool) (i : ℕ) : Type 0 where
  pub within : i < n
  pub counted : counts i ≡ true

-- of the first n rows, those of the first k that count lie between the values of two that count
pub record AreExtremes (n k : ℕ) (counts : ℕ → Bool) (value : ℕ → Value) (low high : ℕ) : Type 0
  where
    pub low_row : IsCounted n counts low
    pub high_row : IsCounted n counts high
    pub above : (i : ℕ) → i < k → counts i ≡ true → is_at_most (value low) (value i) ≡ true
    pub below : (i : ℕ) → i < k → counts i ≡ true → is_at_most (value i) (value high) ≡ true

-- the row of the lower of two values, and of the higher
abbrev pub lower_row : (ℕ → Value) → ℕ → ℕ → ℕ
lower_row value low i = if is_gt (compare_values (value low) (value i)) then i else low

abbrev pub higher_row : (ℕ → Value) → ℕ → ℕ → ℕ
higher_row value high i = if is_gt (compare_values (value i) (value high)) then i else high

-- the rows that are not null lie between the values of two of them
abbrev pub AreExtremeRows : List Value → ℕ → ℕ → Type 0
AreExtremeRows vs =
    AreExtremes (length vs) (length vs) (λ i. not (is_null (row vs i))) (row vs)

-- the types whose ends are looked for
abbrev pub is_measured : LogicalType → Bool
is_measured (bool_type n) = true
is_measured (integer_type p n) = true
is_measured (text_type n) = true
is_measured (bytes_type n) = true
is_measured t = false
