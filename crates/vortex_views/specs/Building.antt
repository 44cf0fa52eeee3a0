-- Views built one by one, over growing buffers.
use Rattle.std.specs.Prelude.{◌≡◌, ℕ, ◌+◌, ◌<◌, ◌≤◌, List, [], ◌∷◌, ◌++◌, length, map}
use Rattle.std.specs.Prelude.{slice_index_or}
use Rattle.vortex_views.specs.declared.builder.Buffers.{Buffers}
use Rattle.vortex_views.specs.ViewBytes.{long_view}
use Rattle.vortex_views.specs.Placing.{Placed, placed_after, most_bytes, most_buffers}
use Rattle.vortex_views.specs.Resolved.{IsViewIn, value_in}

-- the full buffers, and the one that still grows
abbrev pub full_of : Buffers → List (List ℕ)
full_of b = map (λ v. v.items) b.full.items

abbrev pub all_buffers : Buffers → List (List ℕ)
all_buffers b = full_of b ++ b.last.items ∷ []

-- how many buffers there are, and how many bytes the last of them has
abbrev pub filled : Buffers → Placed
filled b = record { count = length b.full.items + 1; fill = length b.last.items }

abbrev pub SameBuffers : Buffers → Buffers → Type 0
SameBuffers old new = (full_of new ≡ full_of old) × (new.last.items ≡ old.last.items)

-- a value appended to the last buffer, and its view
pub record IsAppended (value : List ℕ) (old new : Buffers) (view : List ℕ) : Type 0 where
  pub full : full_of new ≡ full_of old
  pub last : new.last.items ≡ old.last.items ++ value
  pub view_is : view ≡ long_view (length value) value (length old.full.items)
      (length old.last.items)

-- a value in a new buffer after the others, and its view
pub record IsBegun (value : List ℕ) (old new : Buffers) (view : List ℕ) : Type 0 where
  pub full : full_of new ≡ all_buffers old
  pub last : new.last.items ≡ value
  pub view_is : view ≡ long_view (length value) value (length old.full.items + 1) 0

-- offsets and buffer numbers have four bytes each
pub record AreInRange (p : Placed) : Type 0 where
  pub fill : p.fill ≤ most_bytes
  pub count : p.count ≤ most_buffers

-- each buffer of the first list is a prefix of the second list's buffer at the same index
pub record Extend (old new : List (List ℕ)) : Type 0 where
  pub count : length old ≤ length new
  pub each : (k : ℕ) → k < length old
      → (more : List ℕ) × (slice_index_or new k [] ≡ slice_index_or old k [] ++ more)

-- a value that is stored, and its view
pub record IsPlaced (value : List ℕ) (old new : Buffers) (view : List ℕ) : Type 0 where
  pub extend : Extend (all_buffers old) (all_buffers new)
  pub fits : IsViewIn (all_buffers new) view
  pub value_is : value_in (all_buffers new) view ≡ value
  pub filled_is : filled new ≡ placed_after (filled old) (length value)
