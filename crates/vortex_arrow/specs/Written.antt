-- What is written into a caller's buffers: the rows that they say by the layouts, and what stands
-- behind them.
use Rattle.std.specs.Prelude.{◌≡◌, ℕ, ◌+◌, ◌*◌, ◌/◌, ◌<◌, ◌≤◌, ℤ, pos, Bool, true}
use Rattle.std.specs.Prelude.{if◌then◌else◌, List, [], length, map, take, drop, ⊤}
use Rattle.std.specs.List.{range_with_len, filter, flat_map}
use Rattle.vortex_types.specs.LogicalTypes.{is_bool_type}
use Rattle.vortex_types.specs.Values.{Value, null, text, bytes}
use Rattle.vortex_bits.specs.Bits.{bit_of}
use Rattle.vortex_columns.specs.ColumnView.{ColumnView, is_bytes_like}
use Rattle.vortex_columns.specs.TrueRows.{is_true, true_rows}
use Rattle.vortex_arrow.specs.Layouts.{Layout, value_at, HasItems}
use Rattle.vortex_arrow.specs.Layouts.{offsets as by_offsets, views as by_views}
use Rattle.vortex_arrow.specs.Values.{offset_at}
use Rattle.vortex_arrow.specs.declared.error.CopyError.{CopyError}
use Rattle.vortex_arrow.specs.declared.error.CopyError.TheVariants.{OtherType, ValidityTooShort}
use Rattle.vortex_arrow.specs.declared.error.CopyError.TheVariants.{OffsetsTooShort, DataTooShort}
use Rattle.vortex_arrow.specs.declared.error.CopyError.TheVariants.{TooLong}
use Rattle.vortex_arrow.specs.declared.error.CopyError.TheVariants.{ValuesTooShort}

-- how many bytes hold n bits
abbrev pub bytes_for : ℕ → ℕ
bytes_for n = (n + 7) / 8

-- from item k on nothing has changed
abbrev pub SameBehind : {A : Type 0} → ℕ → List A → List A → Type 0
SameBehind k old new = drop k new ≡ drop k old

-- n rows of a layout: row i is null where bit i of the validity is not set, and else item i
abbrev pub rows_of : List ℕ → Layout → ℕ → List Value
rows_of validity l n =
    map (λ i. if bit_of validity i then value_at l i else null) (range_with_len 0 n)

-- why values are not copied: the column is of another type, or the first of the buffers is shorter
-- than it has to be
abbrev pub RefusesValues : Type 0 → ℕ → ℕ → ℕ → ℕ → CopyError → Type 0
RefusesValues IsType needed validity items values OtherType = ¬ IsType
RefusesValues IsType needed validity items values ValidityTooShort =
    IsType × (validity < needed)
RefusesValues IsType needed validity items values ValuesTooShort =
    IsType × (needed ≤ validity) × (values < items)
RefusesValues IsType needed validity items values e = ⊥

-- the bytes of a text or a byte string
abbrev pub value_bytes : Value → List ℕ
value_bytes (text bs) = bs
value_bytes (bytes bs) = bs
value_bytes v = []

-- those of all rows, one behind another
abbrev pub joined : List Value → List ℕ
joined rows = flat_map value_bytes rows

-- Texts and byte strings stand one behind another from the first byte on, and offset i says how many
-- bytes the rows before row i have together. A null has none.
pub record ArePacked (rows : List Value) (os : List ℤ) (bs : List ℕ) : Type 0 where
  pub count : length rows < length os
  pub places : (i : ℕ) → i ≤ length rows → offset_at os i ≡ pos (length (joined (take i rows)))
  pub bytes : take (length (joined rows)) bs ≡ joined rows

-- so do those of a copy, which has no views
abbrev pub IsPacked : Layout → List Value → Type 0
IsPacked (by_offsets t os bs) rows = ArePacked rows os bs
IsPacked (by_views t vs bs) rows = ⊥
IsPacked l rows = ⊤

-- the rows stand in buffers, each from its first item on: they are long enough, and say the rows
pub record AreCopied (rows : List Value) (validity : List ℕ) (l : Layout) : Type 0 where
  pub bits : length rows ≤ 8 * length validity
  pub items : HasItems l 0 (length rows)
  pub said : rows ≡ rows_of validity l (length rows)
  pub packed : IsPacked l rows

-- likewise of texts, whose offsets tell no more bytes than the most
abbrev pub RefusesTexts : ColumnView → ℕ → ℕ → ℕ → ℕ → CopyError → Type 0
RefusesTexts c validity offsets room most OtherType = ¬ (is_bytes_like c.dtype ≡ true)
RefusesTexts c validity offsets room most ValidityTooShort =
    (is_bytes_like c.dtype ≡ true) × (validity < bytes_for (length c.rows))
RefusesTexts c validity offsets room most OffsetsTooShort =
    (is_bytes_like c.dtype ≡ true) × (bytes_for (length c.rows) ≤ validity)
    × (offsets ≤ length c.rows)
RefusesTexts c validity offsets room most TooLong =
    (is_bytes_like c.dtype ≡ true) × (bytes_for (length c.rows) ≤ validity)
    × (length c.rows < offsets) × (most < length (joined c.rows))
RefusesTexts c validity offsets room most DataTooShort =
    (is_bytes_like c.dtype ≡ true) × (bytes_for (length c.rows) ≤ validity)
    × (length c.rows < offsets) × (length (joined c.rows) ≤ most)
    × (room < length (joined c.rows))
RefusesTexts c validity offsets room most e = ⊥

-- the places below n at which a test gives true, ascending
unfoldable pub places : (ℕ → Bool) → ℕ → List ℕ
places test n = filter test (range_with_len 0 n)

-- why the numbers of the true rows are not copied, of which the greatest is no more than the most
abbrev pub RefusesSelection : ColumnView → ℕ → ℕ → CopyError → Type 0
RefusesSelection c room most OtherType = ¬ (is_bool_type c.dtype ≡ true)
RefusesSelection c room most TooLong =
    (is_bool_type c.dtype ≡ true) × (most + 1 < length c.rows)
RefusesSelection c room most ValuesTooShort =
    (is_bool_type c.dtype ≡ true) × (length c.rows ≤ most + 1)
    × (room < length (true_rows c.rows))
RefusesSelection c room most e = ⊥

-- 1 for what is true, and 0 for what is not
abbrev pub flag : Bool → ℕ
flag b = if b then 1 else 0

-- a byte for each row: 1 where it is true, 0 where it is false or null
abbrev pub mask_of : List Value → List ℕ
mask_of rows = map (λ v. flag (is_true v)) rows

-- why they are not copied
abbrev pub RefusesMask : ColumnView → ℕ → CopyError → Type 0
RefusesMask c room OtherType = ¬ (is_bool_type c.dtype ≡ true)
RefusesMask c room ValuesTooShort = (is_bool_type c.dtype ≡ true) × (room < length c.rows)
RefusesMask c room e = ⊥
