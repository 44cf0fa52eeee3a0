-- The order of the two values in each row, in the forms in which columns are read in pairs.
use Rattle.std.specs.Prelude.{ℕ, ℤ, pos, Bool, false, List, [], slice_index_or}
use Rattle.std.specs.declared.cmp.Ordering.{Ordering}
use Rattle.std.specs.Ordering.{nat_cmp, int_cmp, bool_cmp}
use Rattle.std.specs.Cmp.Lexicographic.{slice_cmp}
use Rattle.vortex_types.specs.Values.{Value}
use Rattle.vortex_types.specs.Order.{compare_values}
use Rattle.vortex_columns.specs.ColumnView.{row}

abbrev pub row_orders : List Value → List Value → ℕ → Ordering
row_orders ls rs i = compare_values (row ls i) (row rs i)

-- a list with a list, and with one value in each row
abbrev pub int_orders : List ℤ → List ℤ → ℕ → Ordering
int_orders xs ys i = int_cmp (slice_index_or xs i (pos 0)) (slice_index_or ys i (pos 0))

abbrev pub int_orders_with : List ℤ → ℤ → ℕ → Ordering
int_orders_with xs z i = int_cmp (slice_index_or xs i (pos 0)) z

abbrev pub bit_orders : List Bool → List Bool → ℕ → Ordering
bit_orders xs ys i = bool_cmp (slice_index_or xs i false) (slice_index_or ys i false)

abbrev pub bit_orders_with : List Bool → Bool → ℕ → Ordering
bit_orders_with xs b i = bool_cmp (slice_index_or xs i false) b

abbrev pub byte_order : List ℕ → List ℕ → Ordering
byte_order = slice_cmp nat_cmp

abbrev pub byte_orders : List (List ℕ) → List (List ℕ) → ℕ → Ordering
byte_orders xs ys i = byte_order (slice_index_or xs i []) (slice_index_or ys i [])

abbrev pub byte_orders_with : List (List ℕ) → List ℕ → ℕ → Ordering
byte_orders_with xs bs i = byte_order (slice_index_or xs i []) bs
