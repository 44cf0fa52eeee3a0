-- Rows of a column that are taken by their row numbers.
use Rattle.std.specs.Prelude.{◌≡◌, ℕ, ◌*◌, ◌<◌, Bool, false, pos, List, [], ◌∷◌, ◌++◌, map, length}
use Rattle.std.specs.Prelude.{All, slice_index, slice_index_or}
use Rattle.std.specs.List.{range_with_len}
use Rattle.vortex_columns.specs.ColumnView.{ColumnView, row}
use Rattle.vortex_columns.specs.ValidityView.{ValidityForm, array, ValidityView}
use Rattle.vortex_columns.specs.Stored.{Kept, bools, integers, texts, byte_strings, structs, lists}
use Rattle.vortex_columns.specs.Stored.{fixed_size_lists, maps, Stored, nulls, constant_of, kept}
use Rattle.vortex_columns.specs.Stored.{HasPlace}

-- each code is a row number
abbrev pub AreRowsOf : ColumnView → List ℕ → Type 0
AreRowsOf c codes = All (λ code. code < length c.rows) codes

-- the rows with these numbers, in the order of the numbers
pub record IsTaken (c : ColumnView) (codes : List ℕ) (d : ColumnView) : Type 0 where
  pub dtype : d.dtype ≡ c.dtype
  pub rows : d.rows ≡ map (row c.rows) codes

-- the same with the rest of the column's view: how its rows are stored stays
abbrev pub taken : List ℕ → ColumnView → ColumnView
taken places c =
    record {
      dtype = c.dtype;
      rows = map (row c.rows) places;
      constant = c.constant;
      form = c.form;
    }

-- the indices of the elements of lists of one size
abbrev pub element_places : ℕ → List ℕ → List ℕ
element_places size [] = []
element_places size (p ∷ ps) = range_with_len (size * p) size ++ element_places size ps

abbrev pub taken_kept : List ℕ → Kept → Kept
taken_kept places (bools bits) = bools (map (λ i. slice_index_or bits i false) places)
taken_kept places (integers p ns) = integers p (map (λ i. slice_index_or ns i (pos 0)) places)
taken_kept places (texts ts) = texts (map (λ i. slice_index_or ts i []) places)
taken_kept places (byte_strings bs) = byte_strings (map (λ i. slice_index_or bs i []) places)
taken_kept places (structs cs) = structs (map (taken places) cs)
taken_kept places (lists e offsets sizes) =
    lists e (map (slice_index offsets) places) (map (slice_index sizes) places)
taken_kept places (fixed_size_lists e size) =
    fixed_size_lists (taken (element_places size places) e) size
taken_kept places (maps k v offsets sizes) =
    maps k v (map (slice_index offsets) places) (map (slice_index sizes) places)

-- a list of bits has one for each index
abbrev pub taken_bits : ValidityForm → List ℕ → List Bool → List Bool
taken_bits array places bits = map (λ i. slice_index_or bits i false) places
taken_bits f places bits = bits

abbrev pub taken_validity : List ℕ → ValidityView → ValidityView
taken_validity places v = record { form = v.form; bits = taken_bits v.form places v.bits }

abbrev pub taken_stored : List ℕ → Stored → Stored
taken_stored places nulls = nulls
taken_stored places (constant_of s) = constant_of s
taken_stored places (kept k v) = kept (taken_kept places k) (taken_validity places v)

-- what is read at each index is in range
abbrev pub ArePlaces : List ℕ → Kept → Type 0
ArePlaces places k = All (λ i. HasPlace i k) places
