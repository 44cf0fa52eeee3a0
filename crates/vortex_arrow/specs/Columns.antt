-- The column that a caller's buffers say, in Arrow's columnar format.
use Rattle.std.specs.Borrow.{Bor}
use Rattle.std.specs.Prelude.{◌≡◌, ℕ, ◌+◌, ◌*◌, ◌<◌, ◌≤◌, Bool, true, false, if◌then◌else◌}
use Rattle.std.specs.Prelude.{List, [], length, map, Option, Some, None, ⊤}
use Rattle.std.specs.List.{range_with_len}
use Rattle.vortex_bits.specs.Bits.{bit_of, bits_from}
use Rattle.vortex_views.specs.Collected.{HaveRoom}
use Rattle.vortex_columns.specs.ValidityView.{ValidityView, non_nullable, all_valid, array}
use Rattle.vortex_columns.specs.ValidityView.{is_valid_row, form_allows_null}
use Rattle.vortex_columns.specs.ColumnView.{ColumnView}
use Rattle.vortex_columns.specs.Stored.{made_of}
use Rattle.vortex_arrow.specs.declared.column.ArrowColumn.{ArrowColumn}
use Rattle.vortex_arrow.specs.Layouts.{Layout, offsets, views, layout_of, layout_type, value_at}
use Rattle.vortex_arrow.specs.Layouts.{bytes_at}
use Rattle.vortex_arrow.specs.Layouts.{HasItems, Lies, IsTextIfValid}

-- a set bit of the validity is a row that is not null; where there is none, no row is null
abbrev pub validity_from : Bool → Option (Bor (List ℕ)) → ℕ → ℕ → ValidityView
validity_from false bitmap from n = record { form = non_nullable; bits = [] }
validity_from true None from n = record { form = all_valid; bits = [] }
validity_from true (Some b) from n = record { form = array; bits = bits_from b.now from n }

-- so many rows of a layout from one item on, with the rows that are not null
abbrev pub column_from : Layout → ValidityView → ℕ → ℕ → ColumnView
column_from l v from n =
    made_of (layout_type l (form_allows_null v.form)) v n (λ i. value_at l (from + i))

abbrev pub arrow_validity : ArrowColumn → ValidityView
arrow_validity c = validity_from c.nullable c.validity c.offset c.length

-- row i is null where bit offset + i of the validity is not set, and else item offset + i
abbrev pub arrow_column : ArrowColumn → ColumnView
arrow_column c = column_from (layout_of c.values) (arrow_validity c) c.offset c.length

-- the validity has a bit for each row
abbrev pub HasBitsFor : Option (Bor (List ℕ)) → ℕ → ℕ → Type 0
HasBitsFor None from n = ⊤
HasBitsFor (Some b) from n = from + n ≤ 8 * length b.now

-- an item that is null is one of a column that is nullable
abbrev pub IsValidIn : Option (Bor (List ℕ)) → ℕ → Type 0
IsValidIn None p = ⊤
IsValidIn (Some b) p = bit_of b.now p ≡ true

abbrev pub MayBeNull : Bool → Option (Bor (List ℕ)) → ℕ → Type 0
MayBeNull nullable b p = nullable ≡ false → IsValidIn b p

-- the bytes of row i; none where it is null
abbrev pub row_bytes : (ℕ → List ℕ) → ValidityView → ℕ → ℕ → List ℕ
row_bytes item v from i = if is_valid_row v i then item (from + i) else []

-- those of n rows
abbrev pub values_from : (ℕ → List ℕ) → ValidityView → ℕ → ℕ → List (List ℕ)
values_from item v from n = map (row_bytes item v from) (range_with_len 0 n)

-- views can be made of them, if they are texts or byte strings
abbrev pub HasRoom : Layout → ValidityView → ℕ → ℕ → Type 0
HasRoom (offsets t os bs) v from n = HaveRoom (values_from (bytes_at (offsets t os bs)) v from n)
HasRoom (views t vs bs) v from n = HaveRoom (values_from (bytes_at (views t vs bs)) v from n)
HasRoom l v from n = ⊤

-- the values that are read of n rows are there, and texts are UTF-8
pub record AreValues (l : Layout) (v : ValidityView) (from n : ℕ) : Type 0 where
  pub lie : (i : ℕ) → i < n → Lies l (from + i) (is_valid_row v i)
  pub room : HasRoom l v from n
  pub texts : (i : ℕ) → i < n → IsTextIfValid l (from + i) (is_valid_row v i)

-- buffers that a column can be made of
pub record IsWellFormed (c : ArrowColumn) : Type 0 where
  pub bits : HasBitsFor c.validity c.offset c.length
  pub items : HasItems (layout_of c.values) c.offset c.length
  pub nulls : (i : ℕ) → i < c.length → MayBeNull c.nullable c.validity (c.offset + i)
  pub values : AreValues (layout_of c.values) (arrow_validity c) c.offset c.length
