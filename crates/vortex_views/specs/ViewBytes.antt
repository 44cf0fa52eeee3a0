-- The 16 bytes of a view (Arrow's layout): how they are made from a value, and how they are read.
use Rattle.std.specs.Prelude.{ℕ, ◌≤◌, List, ◌++◌, length, map, slice_index, take, drop}
use Rattle.std.specs.List.{range_with_len}
use Rattle.std.specs.Int.{w32, to_le_bytes, from_le_bytes}
use Rattle.vortex_views.specs.declared.view.BinaryView.{BinaryView}

abbrev pub view_bytes : BinaryView → List ℕ
view_bytes v = v.bytes

-- the first n bytes, padded with zeros
abbrev pub padded : ℕ → List ℕ → List ℕ
padded n value = map (λ i. slice_index value i) (range_with_len 0 n)

-- the length, then the value itself if it has at most 12 bytes
abbrev pub inlined_view : List ℕ → List ℕ
inlined_view value = to_le_bytes w32 (length value) ++ padded 12 value

-- the length, then the first four bytes of a longer value, its buffer's number and its offset there
abbrev pub long_view : ℕ → List ℕ → ℕ → ℕ → List ℕ
long_view len start buffer offset =
    to_le_bytes w32 len ++ padded 4 start ++ to_le_bytes w32 buffer ++ to_le_bytes w32 offset

-- the length of the value
abbrev pub view_len : List ℕ → ℕ
view_len view = from_le_bytes w32 view

abbrev pub IsInlined : List ℕ → Type 0
IsInlined view = view_len view ≤ 12

-- the bytes of an inlined value
abbrev pub inlined_value : List ℕ → List ℕ
inlined_value view = take (view_len view) (drop 4 view)

-- the number of a long value's buffer, and the offset in it
abbrev pub view_buffer : List ℕ → ℕ
view_buffer view = from_le_bytes w32 (drop 8 view)

abbrev pub view_offset : List ℕ → ℕ
view_offset view = from_le_bytes w32 (drop 12 view)
