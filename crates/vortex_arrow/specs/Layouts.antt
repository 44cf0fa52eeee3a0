-- The layouts of Arrow's columnar format: which value an item of the buffers is.
use Rattle.std.specs.Prelude.{◌≡◌, ℕ, ◌+◌, ◌*◌, ◌<◌, ◌≤◌, ℤ, pos, Bool, true, false, List, []}
use Rattle.std.specs.Prelude.{length, map, slice_index_or, IsUtf8, ⊤}
use Rattle.vortex_types.specs.declared.dtype.PType.{PType}
use Rattle.vortex_types.specs.declared.dtype.PType.TheVariants.{I8, I16, I32, I64, U8, U16, U32}
use Rattle.vortex_types.specs.declared.dtype.PType.TheVariants.{U64}
use Rattle.vortex_types.specs.LogicalTypes.{LogicalType, bool_type, integer_type, text_type}
use Rattle.vortex_types.specs.LogicalTypes.{bytes_type}
use Rattle.vortex_types.specs.Values.{Value, truth, number, text, bytes}
use Rattle.vortex_bits.specs.Bits.{bit_of}
use Rattle.vortex_arrow.specs.declared.column.ArrowValues.{ArrowValues}
use Rattle.vortex_arrow.specs.declared.column.ArrowValues.TheVariants as arrow
use Rattle.vortex_arrow.specs.declared.error.ValueFault.{ValueFault}
use Rattle.vortex_arrow.specs.Floats.{wide_key, narrow_key}
use Rattle.vortex_arrow.specs.Values.{offset_at, bytes_between, LieWithin, IsOffsetFault}
use Rattle.vortex_arrow.specs.Values.{buffers_of, view_value, IsView, IsViewFault}

-- bits; numbers of a type; offsets into bytes, and views over buffers, of texts or of byte strings
pub data Layout : Type 0 where
  bits : List ℕ → Layout
  numbers : PType → List ℤ → Layout
  offsets : Bool → List ℤ → List ℕ → Layout
  views : Bool → List (List ℕ) → List (List ℕ) → Layout

abbrev pub layout_of : ArrowValues → Layout
layout_of (arrow.Bool bs) = bits bs.now
layout_of (arrow.Int8 xs) = numbers I8 (map (λ x. x) xs.now)
layout_of (arrow.Int16 xs) = numbers I16 (map (λ x. x) xs.now)
layout_of (arrow.Int32 xs) = numbers I32 (map (λ x. x) xs.now)
layout_of (arrow.Int64 xs) = numbers I64 (map (λ x. x) xs.now)
layout_of (arrow.UInt8 xs) = numbers U8 (map pos xs.now)
layout_of (arrow.UInt16 xs) = numbers U16 (map pos xs.now)
layout_of (arrow.UInt32 xs) = numbers U32 (map pos xs.now)
layout_of (arrow.UInt64 xs) = numbers U64 (map pos xs.now)
layout_of (arrow.Date xs) = numbers I32 (map (λ x. x) xs.now)
layout_of (arrow.Timestamp xs) = numbers I64 (map (λ x. x) xs.now)
layout_of (arrow.Decimal p s xs) = numbers I64 (map (λ x. x) xs.now)
layout_of (arrow.Float64 xs) = numbers I64 (map wide_key xs.now)
layout_of (arrow.Float32 xs) = numbers I32 (map narrow_key xs.now)
layout_of (arrow.Utf8 os bs) = offsets true (map (λ x. x) os.now) bs.now
layout_of (arrow.LargeUtf8 os bs) = offsets true (map (λ x. x) os.now) bs.now
layout_of (arrow.Binary os bs) = offsets false (map (λ x. x) os.now) bs.now
layout_of (arrow.LargeBinary os bs) = offsets false (map (λ x. x) os.now) bs.now
layout_of (arrow.Utf8View vs bs) = views true vs.now (buffers_of bs.now)
layout_of (arrow.BinaryView vs bs) = views false vs.now (buffers_of bs.now)

-- the type of its values, of a column that is nullable or not
abbrev pub layout_type : Layout → Bool → LogicalType
layout_type (bits bs) n = bool_type n
layout_type (numbers p xs) n = integer_type p n
layout_type (offsets true os bs) n = text_type n
layout_type (offsets false os bs) n = bytes_type n
layout_type (views true vs bs) n = text_type n
layout_type (views false vs bs) n = bytes_type n

-- the buffers have so many items from one on; offsets have one more, where there is an item
abbrev pub HasItems : Layout → ℕ → ℕ → Type 0
HasItems (bits bs) from n = from + n ≤ 8 * length bs
HasItems (numbers p xs) from n = from + n ≤ length xs
HasItems (offsets t os bs) from n = 0 < n → from + n < length os
HasItems (views t vs bs) from n = from + n ≤ length vs

abbrev pub has_offsets : Layout → Bool
has_offsets (offsets t os bs) = true
has_offsets l = false

-- the bytes of item p
abbrev pub bytes_at : Layout → ℕ → List ℕ
bytes_at (offsets t os bs) p = bytes_between bs (offset_at os p) (offset_at os (p + 1))
bytes_at (views t vs bs) p = view_value bs (slice_index_or vs p [])
bytes_at l p = []

-- the value of item p
abbrev pub value_at : Layout → ℕ → Value
value_at (bits bs) p = truth (bit_of bs p)
value_at (numbers t xs) p = number (slice_index_or xs p (pos 0))
value_at (offsets true os bs) p = text (bytes_at (offsets true os bs) p)
value_at (offsets false os bs) p = bytes (bytes_at (offsets false os bs) p)
value_at (views true vs bs) p = text (bytes_at (views true vs bs) p)
value_at (views false vs bs) p = bytes (bytes_at (views false vs bs) p)

-- the bytes of item p lie where its offsets say, valid or not, or its view, if it is valid
abbrev pub Lies : Layout → ℕ → Bool → Type 0
Lies (offsets t os bs) p valid = LieWithin bs (offset_at os p) (offset_at os (p + 1))
Lies (views t vs bs) p valid = valid ≡ true → IsView bs (slice_index_or vs p [])
Lies l p valid = ⊤

-- what is wrong with where they lie
abbrev pub IsFault : Layout → ℕ → ValueFault → Type 0
IsFault (offsets t os bs) p f = IsOffsetFault bs (offset_at os p) (offset_at os (p + 1)) f
IsFault (views t vs bs) p f = IsViewFault bs (slice_index_or vs p []) f
IsFault l p f = ⊥

-- a text that is valid is UTF-8
abbrev pub IsTextIfValid : Layout → ℕ → Bool → Type 0
IsTextIfValid (offsets true os bs) p valid = valid ≡ true → IsUtf8 (bytes_at (offsets true os bs) p)
IsTextIfValid (views true vs bs) p valid = valid ≡ true → IsUtf8 (bytes_at (views true vs bs) p)
IsTextIfValid l p valid = ⊤
