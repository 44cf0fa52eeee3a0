-- Lists that are ranges of elements, and their order.
use Rattle.std.specs.Prelude.{ℕ, ◌+◌, ◌^◌, ◌<◌, ◌≤◌, List, length}
use Rattle.std.specs.declared.cmp.Ordering.{Ordering}
use Rattle.vortex_types.specs.Values.{Value}
use Rattle.vortex_types.specs.Order.{compare_values}
use Rattle.vortex_columns.specs.ColumnView.{part}

-- the order of two lists, each that many values from an index on
abbrev pub part_order : List Value → ℕ → ℕ → List Value → ℕ → ℕ → Ordering
part_order ls a m rs b n = compare_values (part ls a m) (part rs b n)

-- that many values from an index on are in range
abbrev pub LiesIn : ℕ → ℕ → List Value → Type 0
LiesIn start size values = (start + size ≤ length values) × (length values < 2 ^ 64)

-- the start and length of each row's list: in each of n rows it is within the values
pub record AreListed {A : Type 0} (n : ℕ) (has_row : A → ℕ → Type 0) (start size : A → ℕ → ℕ)
    (ranges : A) (values : List Value) : Type 0 where
  pub there : (i : ℕ) → i < n → has_row ranges i
  pub within : (i : ℕ) → i < n → LiesIn (start ranges i) (size ranges i) values

-- the order of the two lists in each row
abbrev pub list_orders : {A : Type 0} → (A → ℕ → ℕ) → (A → ℕ → ℕ) → A → List Value → A → List Value
    → ℕ → Ordering
list_orders start size l ls r rs i =
    part_order ls (start l i) (size l i) rs (start r i) (size r i)
