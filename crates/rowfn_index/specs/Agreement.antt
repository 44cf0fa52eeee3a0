-- Whether an index was written as it is asked.
use Rattle.std.specs.Prelude.{◌≡◌, ℕ, List, Option, Some, String, slice_get, string_bytes, option_map}
use Rattle.std.specs.declared.alloc.Global.{Global}
use Rattle.rowfn_index.specs.declared.head.IndexedColumn.{IndexedColumn}

-- the column of that number has that name
pub record IsNamed (columns : List IndexedColumn) (k : ℕ) (name : List ℕ) : Type 0 where
  pub column : IndexedColumn
  pub found : slice_get columns k ≡ Some column
  pub named : string_bytes column.name ≡ name

-- it is at that place
pub record IsAt (columns : List IndexedColumn) (k place : ℕ) : Type 0 where
  pub column : IndexedColumn
  pub found : slice_get columns k ≡ Some column
  pub there : column.place ≡ place

abbrev pub word_at : List (String Global) → ℕ → Option (List ℕ)
word_at ws k = option_map string_bytes (slice_get ws k)

abbrev pub AreSameWords : List (String Global) → List (String Global) → Type 0
AreSameWords ws vs = (k : ℕ) → word_at ws k ≡ word_at vs k
