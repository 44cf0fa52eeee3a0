-- Texts and byte strings in Arrow's columnar format: by offsets into data ("Variable-size Binary
-- Layout"), and by views of 16 bytes over buffers ("Variable-size Binary View Layout"). Which bytes
-- they are, and when they are there.
use Rattle.std.specs.Borrow.{Bor}
use Rattle.std.specs.Prelude.{◌≡◌, ◌⊎◌, ℕ, ◌+◌, ◌<◌, ◌≤◌, nat_le, ℤ, pos, ◌≤ℤ◌, ◌<ℤ◌, nat_abs}
use Rattle.std.specs.Prelude.{if◌then◌else◌, List, [], length, map, take, drop, slice_index_or}
use Rattle.std.specs.Prelude.{slice_range}
use Rattle.vortex_views.specs.ViewBytes.{view_len, view_buffer, view_offset}
use Rattle.vortex_views.specs.ViewBytes.{inlined_view, inlined_value}
use Rattle.vortex_arrow.specs.declared.error.ValueFault.{ValueFault}
use Rattle.vortex_arrow.specs.declared.error.ValueFault.TheVariants.{OffsetsFall, PastData}
use Rattle.vortex_arrow.specs.declared.error.ValueFault.TheVariants.{ViewOutOfRange, NotPadded}
use Rattle.vortex_arrow.specs.declared.error.ValueFault.TheVariants.{PrefixDiffers}

-- offset p
abbrev pub offset_at : List ℤ → ℕ → ℤ
offset_at offsets p = slice_index_or offsets p (pos 0)

-- the bytes from one offset to another
abbrev pub bytes_between : List ℕ → ℤ → ℤ → List ℕ
bytes_between bytes from to = slice_range bytes (nat_abs from) (nat_abs to)

-- offsets that are not negative, do not fall, and do not pass the end
pub record LieWithin (bytes : List ℕ) (from to : ℤ) : Type 0 where
  pub start : pos 0 ≤ℤ from
  pub order : from ≤ℤ to
  pub end : to ≤ℤ pos (length bytes)

-- what is wrong with offsets
abbrev pub IsOffsetFault : List ℕ → ℤ → ℤ → ValueFault → Type 0
IsOffsetFault bytes from to OffsetsFall = (from <ℤ pos 0) ⊎ (to <ℤ from)
IsOffsetFault bytes from to PastData = (from ≤ℤ to) × (pos (length bytes) <ℤ to)
IsOffsetFault bytes from to f = ⊥

-- buffers that are borrowed
abbrev pub buffers_of : List (Bor (List ℕ)) → List (List ℕ)
buffers_of bs = map (λ b. b.now) bs

-- the buffer that a view names
abbrev pub buffer_named : List (List ℕ) → List ℕ → List ℕ
buffer_named buffers view = slice_index_or buffers (view_buffer view) []

-- the bytes of a view
abbrev pub view_value : List (List ℕ) → List ℕ → List ℕ
view_value buffers view =
    if nat_le (view_len view) 12 then inlined_value view
    else take (view_len view) (drop (view_offset view) (buffer_named buffers view))

-- a value within its view is followed by zeros
abbrev pub IsPadded : List ℕ → Type 0
IsPadded view = view ≡ inlined_view (inlined_value view)

-- the bytes that a view names are in the buffer
abbrev pub IsInBuffer : List ℕ → List ℕ → Type 0
IsInBuffer buffer view = view_offset view + view_len view ≤ length buffer

-- the view tells the first four of them
abbrev pub TellsPrefix : List ℕ → List ℕ → Type 0
TellsPrefix buffer view = take 4 (drop 4 view) ≡ take 4 (drop (view_offset view) buffer)

-- the value of at most 12 bytes is padded, a longer one is in a buffer
pub record IsView (buffers : List (List ℕ)) (view : List ℕ) : Type 0 where
  pub short : view_len view ≤ 12 → IsPadded view
  pub there : 12 < view_len view → view_buffer view < length buffers
  pub within : 12 < view_len view → IsInBuffer (buffer_named buffers view) view
  pub prefix : 12 < view_len view → TellsPrefix (buffer_named buffers view) view

-- what is wrong with a view of bytes in a buffer
abbrev pub IsBufferFault : List ℕ → List ℕ → ValueFault → Type 0
IsBufferFault buffer view ViewOutOfRange = ¬ IsInBuffer buffer view
IsBufferFault buffer view PrefixDiffers = IsInBuffer buffer view × ¬ TellsPrefix buffer view
IsBufferFault buffer view f = ⊥

-- what is wrong with a view over buffers
abbrev pub IsViewFault : List (List ℕ) → List ℕ → ValueFault → Type 0
IsViewFault buffers view ViewOutOfRange = (12 < view_len view)
    × (view_buffer view < length buffers → ¬ IsInBuffer (buffer_named buffers view) view)
IsViewFault buffers view PrefixDiffers = (12 < view_len view)
    × (view_buffer view < length buffers) × IsInBuffer (buffer_named buffers view) view
    × ¬ TellsPrefix (buffer_named buffers view) view
IsViewFault buffers view NotPadded = (view_len view ≤ 12) × ¬ IsPadded view
IsViewFault buffers view f = ⊥
