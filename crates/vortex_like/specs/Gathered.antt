-- Concatenated texts, so that one search covers many.
use Rattle.std.specs.Prelude.{◌≡◌, ◌≤◌, ◌<◌, ◌+◌, ◌-◌, ◌↔◌, ℕ, List, Bool, true, length, slice_index}
use Rattle.std.specs.Prelude.{take, drop}
use Rattle.memchr.specs.Find.{OccursAt}
use Rattle.vortex_like.specs.ByteTests.{holds_inside}
use Rattle.vortex_like.specs.Rows.{AreTold}
use Rattle.vortex_like.specs.TextRows.{text_at}

-- n texts, the first of which is the text of row `first`: each begins at its offset and ends at the
-- offset of the next
pub record AreGathered (texts : List (List ℕ)) (first n : ℕ) (bytes places : List ℕ)
    : Type 0 where
  pub count : length places ≡ n + 1
  pub last : slice_index places n ≡ length bytes
  pub within : (r : ℕ) → r ≤ n → slice_index places r ≤ length bytes
  pub next : (r : ℕ) → r < n
      → slice_index places (r + 1) ≡ slice_index places r + length (text_at texts (first + r))
  pub lies : (r : ℕ) → r < n
      → take (length (text_at texts (first + r))) (drop (slice_index places r) bytes)
      ≡ text_at texts (first + r)

-- that many texts from that row on: at least one, at most as many as there are and as are gathered
-- at once
pub record IsBatch (texts : List (List ℕ)) (first : ℕ) (bytes places : List ℕ) : Type 0 where
  pub some : 1 < length places
  pub most : length places ≤ 4097
  pub high : first + length places ≤ length texts + 1
  pub gathered : AreGathered texts first (length places - 1) bytes places

-- offsets within the bytes, in ascending order
pub record ArePlaces (bytes places : List ℕ) : Type 0 where
  pub some : 0 < length places
  pub within : (r : ℕ) → r < length places → slice_index places r ≤ length bytes
  pub rise : (r s : ℕ) → r ≤ s → s < length places → slice_index places r ≤ slice_index places s

-- where the needle is next from an offset on; past the bytes where there is none
pub record IsNext (bytes needle : List ℕ) (from place : ℕ) : Type 0 where
  pub before : (k : ℕ) → from ≤ k → k < place → OccursAt bytes needle k → ⊥
  pub there : place ≤ length bytes → OccursAt bytes needle place
  pub low : from ≤ place

-- whether the needle is in the bytes from offset r up to the next
abbrev pub IsHeldAt : List ℕ → List ℕ → List ℕ → ℕ → Bool → Type 0
IsHeldAt bytes needle places r held =
    (held ≡ true)
    ↔ ((k : ℕ) × (slice_index places r ≤ k) × (k + length needle ≤ slice_index places (r + 1))
    × OccursAt bytes needle k)

-- whether each of the first texts contains the needle
abbrev pub AreHeld : List (List ℕ) → List ℕ → ℕ → List Bool → Type 0
AreHeld texts needle n held =
    AreTold n (λ i b. b ≡ holds_inside needle (text_at texts i)) held
