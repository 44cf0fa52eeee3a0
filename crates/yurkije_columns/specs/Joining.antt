-- Columns that are appended to one another, in the buffers of one.
use Rattle.std.specs.Prelude.{◌≡◌, ℕ, ◌+◌, ◌*◌, ◌<◌, ◌≤◌, pos, Bool, true, false, List, []}
use Rattle.std.specs.Prelude.{length, map, if◌then◌else◌}
use Rattle.vortex_types.specs.declared.dtype.PType.TheVariants.{I8, I16, I32, I64, U8, U16, U32}
use Rattle.vortex_types.specs.declared.dtype.PType.TheVariants.{U64}
use Rattle.vortex_types.specs.LogicalTypes.{LogicalType, bool_type, integer_type, is_bool_type}
use Rattle.vortex_types.specs.Values.{Value, null}
use Rattle.vortex_bits.specs.Bits.{bit_of, bits_from}
use Rattle.vortex_columns.specs.ColumnView.{ColumnView, IsIntegerType, row}
use Rattle.vortex_columns.specs.ValidityView.{ValidityView, non_nullable, array}
use Rattle.vortex_arrow.specs.Layouts.{Layout, bits, numbers, value_at, HasItems}
use Rattle.vortex_arrow.specs.Columns.{column_from}
use Rattle.yurkije_columns.specs.declared.joined.Values.{Values}
use Rattle.yurkije_columns.specs.declared.joined.Values.TheVariants as values
use Rattle.yurkije_columns.specs.declared.joined.Joined.TheInside.{Inside}

-- a type of truth values or of integers
abbrev pub is_flat_type : LogicalType → Bool
is_flat_type (bool_type n) = true
is_flat_type (integer_type p n) = true
is_flat_type t = false

abbrev pub layout_joined : Values → Layout
layout_joined (values.Bools bs) = bits bs.items
layout_joined (values.I8 xs) = numbers I8 (map (λ x. x) xs.items)
layout_joined (values.I16 xs) = numbers I16 (map (λ x. x) xs.items)
layout_joined (values.I32 xs) = numbers I32 (map (λ x. x) xs.items)
layout_joined (values.I64 xs) = numbers I64 (map (λ x. x) xs.items)
layout_joined (values.U8 xs) = numbers U8 (map pos xs.items)
layout_joined (values.U16 xs) = numbers U16 (map pos xs.items)
layout_joined (values.U32 xs) = numbers U32 (map pos xs.items)
layout_joined (values.U64 xs) = numbers U64 (map pos xs.items)

-- the values are of the type
abbrev pub AreOfType : Layout → LogicalType → Type 0
AreOfType (bits bs) t = is_bool_type t ≡ true
AreOfType (numbers p xs) t = IsIntegerType p t
AreOfType l t = ⊥

-- a set bit is a row that is not null, of n rows of a column that is nullable
abbrev pub validity_in : Bool → List ℕ → ℕ → ValidityView
validity_in false bytes n = record { form = non_nullable; bits = [] }
validity_in true bytes n = record { form = array; bits = bits_from bytes 0 n }

-- there are n bits and values
pub record HaveRoom (n : ℕ) (validity : List ℕ) (l : Layout) : Type 0 where
  pub bits : n ≤ 8 * length validity
  pub items : HasItems l 0 n

-- row i by its bit and its value
abbrev pub row_at : List ℕ → Layout → ℕ → Value
row_at validity l i = if bit_of validity i then value_at l i else null

-- rows follow the first n, which are as they were
pub record Joins (n : ℕ) (rows : List Value) (old_bits : List ℕ) (old : Layout)
    (new_bits : List ℕ) (new : Layout) : Type 0 where
  pub bits : (i : ℕ) → i < n → bit_of new_bits i ≡ bit_of old_bits i
  pub values : (i : ℕ) → i < n → value_at new i ≡ value_at old i
  pub behind : (j : ℕ) → j < length rows → row rows j ≡ row_at new_bits new (n + j)
  pub room : HaveRoom (n + length rows) new_bits new

-- the column of the rows so far
abbrev pub joined_column : Inside → ColumnView
joined_column a =
    column_from (layout_joined a.values) (validity_in a.nullable a.validity.items a.len) 0 a.len

abbrev pub IsJoined : Inside → Type 0
IsJoined a = HaveRoom a.len a.validity.items (layout_joined a.values)
