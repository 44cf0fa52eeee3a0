-- Some rows of columns.
use Rattle.std.specs.Prelude.{◌≡◌, ◌<◌, ◌+◌, ℕ, List, Bool, false, IsTrue, None, length}
use Rattle.std.specs.Prelude.{slice_index_or}
use Rattle.vortex_columns.specs.ColumnView.{ColumnView, row}
use Rattle.vortex_interface.specs.Execution.{other_length}
use Rattle.vortex_program.specs.Reads.{BothWhere}

-- so many rows of a column: row j is the one that has number `at j`
pub record HasRowsAt (at : ℕ → ℕ) (count : ℕ) (c d : ColumnView) : Type 0 where
  pub dtype : d.dtype ≡ c.dtype
  pub counted : length d.rows ≡ count
  pub each : (j : ℕ) → j < count → row d.rows j ≡ row c.rows (at j)

-- as many rows of a column, those where it is read
pub record IsPartAt (read : Bool) (at : ℕ → ℕ) (count : ℕ) (c d : ColumnView) : Type 0 where
  pub counted : length d.rows ≡ count
  pub rows : IsTrue read → HasRowsAt at count c d

-- a column that is marked, or is not there
abbrev pub IsMarked : List Bool → List ColumnView → ℕ → Type 0
IsMarked read cs k = k < length cs → IsTrue (slice_index_or read k false)

-- so many rows of the columns at places of which P says so; and as many of each other
pub record HaveRowsAt (P : ℕ → Type 0) (at : ℕ → ℕ) (count : ℕ) (cs ds : List ColumnView) : Type 0
  where
    pub even : other_length count ds ≡ None
    pub each : BothWhere P (HasRowsAt at count) cs ds

-- the rows from the first on
abbrev pub from : ℕ → ℕ → ℕ
from first j = first + j

abbrev pub HasRows : ℕ → ℕ → ColumnView → ColumnView → Type 0
HasRows first count = HasRowsAt (from first) count

abbrev pub IsPart : Bool → ℕ → ℕ → ColumnView → ColumnView → Type 0
IsPart read first count = IsPartAt read (from first) count

abbrev pub HaveRows : (ℕ → Type 0) → ℕ → ℕ → List ColumnView → List ColumnView → Type 0
HaveRows P first count = HaveRowsAt P (from first) count

-- the rows that have these numbers
abbrev pub numbered : List ℕ → ℕ → ℕ
numbered numbers j = slice_index_or numbers j 0
