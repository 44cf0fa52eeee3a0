-- The parts of stored values, kind by kind.
use Rattle.std.specs.Prelude.{◌≡◌, ℕ, ◌<◌, length, List, [], slice_index_or}
use Rattle.vortex_types.specs.declared.dtype.PType.{PType}
use Rattle.vortex_columns.specs.Stored.{Kept, bools, integers, texts, byte_strings, structs, lists}
use Rattle.vortex_columns.specs.Stored.{fixed_size_lists, maps}
use Rattle.vortex_columns.specs.ColumnView.{ColumnView}

abbrev pub KeptBits : Kept → Type 0
KeptBits (bools bits) = Unit {0}
KeptBits k = ⊥

abbrev pub KeptInts : PType → Kept → Type 0
KeptInts p (integers q ns) = q ≡ p
KeptInts p k = ⊥

abbrev pub KeptBytes : Kept → Type 0
KeptBytes (texts ts) = Unit {0}
KeptBytes (byte_strings bs) = Unit {0}
KeptBytes k = ⊥

abbrev pub KeptField : ℕ → Kept → Type 0
KeptField k (structs cs) = k < length cs
KeptField k l = ⊥

abbrev pub IsKeptField : ℕ → Kept → ColumnView → Type 0
IsKeptField k (structs cs) c = (k < length cs) × (c ≡ slice_index_or cs k c)
IsKeptField k l c = ⊥

abbrev pub KeptLists : Kept → Type 0
KeptLists (lists e offsets sizes) = Unit {0}
KeptLists k = ⊥

abbrev pub KeptFixedSizeLists : Kept → Type 0
KeptFixedSizeLists (fixed_size_lists e size) = Unit {0}
KeptFixedSizeLists k = ⊥

abbrev pub KeptMaps : Kept → Type 0
KeptMaps (maps k v offsets sizes) = Unit {0}
KeptMaps k = ⊥

abbrev pub kept_bytes : Kept → List (List ℕ)
kept_bytes (texts ts) = ts
kept_bytes (byte_strings bs) = bs
kept_bytes k = []
