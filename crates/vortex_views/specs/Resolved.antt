-- What views refer to among buffers, and what a view contains of its value.
use Rattle.std.specs.Prelude.{◌≡◌, ℕ, ◌+◌, ◌<◌, ◌≤◌, cond, nat_le, List, [], length, map, take}
use Rattle.std.specs.Prelude.{drop}
use Rattle.std.specs.Prelude.{slice_index_or}
use Rattle.vortex_views.specs.declared.view.BinaryView.{BinaryView}
use Rattle.vortex_views.specs.ViewBytes.{view_bytes, view_len, view_buffer, view_offset}
use Rattle.vortex_views.specs.ViewBytes.{inlined_view, inlined_value}

-- the bytes that a long view refers to
abbrev pub long_value : List (List ℕ) → List ℕ → List ℕ
long_value buffers view =
    take (view_len view) (drop (view_offset view) (slice_index_or buffers (view_buffer view) []))

-- the value of a view
abbrev pub value_in : List (List ℕ) → List ℕ → List ℕ
value_in buffers view =
    cond (nat_le (view_len view) 12) (inlined_value view) (long_value buffers view)

-- the bytes are in the buffer, and the view has their first four
pub record LiesInBuffer (buffer : List ℕ) (view : List ℕ) : Type 0 where
  pub within : view_offset view + view_len view ≤ length buffer
  pub start : take 4 (drop 4 view) ≡ take 4 (drop (view_offset view) buffer)

-- the buffer exists, and the bytes are in it
pub record LiesIn (buffers : List (List ℕ)) (view : List ℕ) : Type 0 where
  pub there : view_buffer view < length buffers
  pub lies : LiesInBuffer (slice_index_or buffers (view_buffer view) []) view

-- a short value is padded with zeros, a longer one is in a buffer
pub record IsViewIn (buffers : List (List ℕ)) (view : List ℕ) : Type 0 where
  pub inlined : view_len view ≤ 12 → view ≡ inlined_view (inlined_value view)
  pub long : 12 < view_len view → LiesIn buffers view

abbrev pub AreViewsIn : List (List ℕ) → List BinaryView → Type 0
AreViewsIn buffers views = (i : ℕ) → i < length views
    → IsViewIn buffers (slice_index_or (map view_bytes views) i [])

-- the values of views
abbrev pub values_in : List (List ℕ) → List BinaryView → List (List ℕ)
values_in buffers views = map (λ v. value_in buffers (view_bytes v)) views

-- a view determines a short value, and a longer one's length and first four bytes
pub record IsViewOf (value : List ℕ) (view : List ℕ) : Type 0 where
  pub len : view_len view ≡ length value
  pub inlined : length value ≤ 12 → view ≡ inlined_view value
  pub start : 12 < length value → take 4 (drop 4 view) ≡ take 4 value
