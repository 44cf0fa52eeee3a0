-- The words of a value: numbers that its view has too, and that are ordered as values are.
use Rattle.std.specs.Prelude.{ℕ, List, ◌++◌, length, drop}
use Rattle.std.specs.Int.{w32, w64, to_le_bytes, from_le_bytes, from_be_bytes}
use Rattle.std.specs.Cmp.Lexicographic.{slice_cmp}
use Rattle.std.specs.Ordering.{nat_cmp}
use Rattle.std.specs.declared.cmp.Ordering.{Ordering}
use Rattle.vortex_views.specs.ViewBytes.{padded}

-- by the first different byte; a prefix is below what continues it
abbrev pub compare_bytes : List ℕ → List ℕ → Ordering
compare_bytes a b = slice_cmp nat_cmp a b

-- the length and the first four bytes
abbrev pub head_word : List ℕ → ℕ
head_word value = from_le_bytes w64 (to_le_bytes w32 (length value) ++ padded 4 value)

-- the first four bytes, big-endian
abbrev pub order_prefix_word : List ℕ → ℕ
order_prefix_word value = from_be_bytes w32 (padded 4 value)

-- the next eight bytes, big-endian
abbrev pub order_tail_word : List ℕ → ℕ
order_tail_word value = from_be_bytes w64 (padded 8 (drop 4 value))
