-- How values are stored in buffers: a short value is inlined in its view; a longer one is appended
-- to the last buffer, or begins a new one where it would exceed the greatest size of a buffer.
use Rattle.std.specs.Prelude.{ℕ, ◌+◌, nat_le, List, [], ◌∷◌, length, if◌then◌else◌}

-- the greatest size of a value, and of a buffer that values are stored in
abbrev pub most_bytes : ℕ
most_bytes = 4294967295

-- the most buffers that a view can distinguish
abbrev pub most_buffers : ℕ
most_buffers = 4294967296

-- how many buffers are started, and how many bytes the last of them has
pub record Placed : Type 0 where
  pub count : ℕ
  pub fill : ℕ

-- the first buffer exists before any value
abbrev pub none_placed : Placed
none_placed = record { count = 1; fill = 0 }

-- after one more value, of that many bytes
abbrev pub placed_after : Placed → ℕ → Placed
placed_after p len =
    if nat_le len 12 then p
    else if nat_le (p.fill + len) most_bytes then record { count = p.count; fill = p.fill + len }
    else record { count = p.count + 1; fill = len }

abbrev pub placed_from : Placed → List (List ℕ) → Placed
placed_from p [] = p
placed_from p (v ∷ vs) = placed_from (placed_after p (length v)) vs

abbrev pub placed : List (List ℕ) → Placed
placed vs = placed_from none_placed vs

-- how many buffers values need
abbrev pub buffers_needed : List (List ℕ) → ℕ
buffers_needed vs = (placed vs).count
