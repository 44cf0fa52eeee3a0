-- The columns that trees read, and lists of columns that agree in them.
use Rattle.std.specs.Prelude.{◌≡◌, ◌⊎◌, ◌↔◌, ◌<◌, ℕ, List, [], ◌∷◌, Bool, false, IsTrue, ⊤}
use Rattle.std.specs.Prelude.{Option, Some, None, length, slice_get, slice_index_or}
use Rattle.vortex_types.specs.LogicalTypes.{LogicalType}
use Rattle.vortex_columns.specs.ColumnView.{ColumnView}
use Rattle.vortex_interface.specs.Trees.{place, Tree}
use Rattle.vortex_interface.specs.Leaves.{IsLeafOf}
use Rattle.vortex_interface.specs.Execution.{other_length}

-- a leaf of the tree is the column at that place of the scope
abbrev pub Reads : {V O : Type 0} → ℕ → Tree V O → Type 0
Reads k t = (name : List ℕ) × (dtype : LogicalType) × IsLeafOf (place k name dtype) t

-- so it is in one of several trees
abbrev pub AnyReads : {V O : Type 0} → ℕ → List (Tree V O) → Type 0
AnyReads k [] = ⊥
AnyReads k (t ∷ ts) = Reads k t ⊎ AnyReads k ts

-- for each of so many columns, whether one of the trees reads it
pub record AreRead {V O : Type 0} (ts : List (Tree V O)) (count : ℕ) (read : List Bool) : Type 0
  where
    pub counted : length read ≡ count
    pub each : (k : ℕ) → k < count → IsTrue (slice_index_or read k false) ↔ AnyReads k ts

-- the marks that were there, and one at each place of which P says so
pub record Marks (P : ℕ → Type 0) (old new : List Bool) : Type 0 where
  pub counted : length new ≡ length old
  pub each : (k : ℕ) → k < length old
      → IsTrue (slice_index_or new k false) ↔ (IsTrue (slice_index_or old k false) ⊎ P k)

-- what is said of the columns at one place of two lists, where it is a place of either
abbrev pub BothAt : (ColumnView → ColumnView → Type 0) → Option ColumnView → Option ColumnView
    → Type 0
BothAt R None None = ⊤
BothAt R (Some c) (Some d) = R c d
BothAt R (Some c) None = ⊥
BothAt R None (Some d) = ⊥

-- so it is said of the columns at each place of which P says so
abbrev pub BothWhere : (ℕ → Type 0) → (ColumnView → ColumnView → Type 0) → List ColumnView
    → List ColumnView → Type 0
BothWhere P R cs ds = (k : ℕ) → P k → BothAt R (slice_get cs k) (slice_get ds k)

-- columns of one type with the same rows
pub record AreAlike (c d : ColumnView) : Type 0 where
  pub dtype : d.dtype ≡ c.dtype
  pub rows : d.rows ≡ c.rows

-- columns of one row count that are alike where a tree reads them
pub record Agree {V O : Type 0} (n : ℕ) (ts : List (Tree V O)) (cs ds : List ColumnView) : Type 0
  where
    pub first_even : other_length n cs ≡ None
    pub second_even : other_length n ds ≡ None
    pub alike : BothWhere (λ k. AnyReads k ts) AreAlike cs ds
