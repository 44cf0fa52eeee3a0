-- Answers of a batch that is run chunk by chunk.
use Rattle.std.specs.Prelude.{◌≡◌, ◌<◌, ◌≤◌, ◌+◌, ◌*◌, ◌/◌, ◌^◌, ◌++◌, ℕ, List}
use Rattle.std.specs.Prelude.{[], ◌∷◌, length, Option, Some, IfSome, All, ⊤}
use Rattle.vortex_types.specs.Values.{Value}
use Rattle.vortex_columns.specs.ColumnView.{ColumnView, row, AreTyped}
use Rattle.vortex_interface.specs.Outcomes.{gives}
use Rattle.vortex_interface.specs.Eval.{eval, tree_type, HasTreeRows}
use Rattle.vortex_interface.specs.Execution.{LeavesFit}
use Rattle.vortex_interface.specs.Running.{KeepsRows}
use Rattle.vortex_functions.specs.Walks.{AllMean}
use Rattle.vortex_expressions.specs.Items.{Tree, meaning}
use Rattle.vortex_arrow.specs.declared.column.ArrowColumn.{ArrowColumn}

-- the column has so many rows from one on, whose place a usize holds
pub record HasChunk (first count : ℕ) (c : ArrowColumn) : Type 0 where
  pub place : c.offset + first < 2 ^ 64
  pub within : first + count ≤ c.length

-- so has a column that may be unread, if it is read
abbrev pub HasChunkIfRead : ℕ → ℕ → Option ArrowColumn → Type 0
HasChunkIfRead first count o = IfSome o (HasChunk first count)

module _ (cs : List ColumnView) where
  -- the column has the tree's type, and its values of so many rows from one on
  pub record RunsFrom (first count : ℕ) (t : Tree) (d : ColumnView) : Type 0 where
    pub dtype : tree_type meaning t ≡ Some d.dtype
    pub counted : length d.rows ≡ count
    pub each : (j : ℕ) → j < count → eval meaning cs t (first + j) ≡ gives (row d.rows j)

  -- the columns fit the tree, and the column has its value in each of these rows in which it has one
  pub record AnswersFrom (first count : ℕ) (t : Tree) (d : ColumnView) : Type 0 where
    pub fit : LeavesFit cs t
    pub kept : (j : ℕ) (w : Value) → j < count → eval meaning cs t (first + j) ≡ gives w
        → row d.rows j ≡ w

  -- each column has the rows of its tree so far
  abbrev pub AreRun : ℕ → List Tree → List ColumnView → Type 0
  AreRun n = AllMean (HasTreeRows meaning cs n)

  -- the columns fit the tree, if a chunk was run, and the column has its values so far
  pub record IsAnswered (n : ℕ) (t : Tree) (d : ColumnView) : Type 0 where
    pub fit : 0 < n → LeavesFit cs t
    pub kept : KeepsRows meaning cs n t d

  abbrev pub AreAnswered : ℕ → List Tree → List ColumnView → Type 0
  AreAnswered n = AllMean (IsAnswered n)

-- columns of the same types, which end with whole bytes of bits
pub record TakesRows (o d : ColumnView) : Type 0 where
  pub dtype : d.dtype ≡ o.dtype
  pub whole : 8 * (length o.rows / 8) ≡ length o.rows

-- the rows of each column are appended to those of another
abbrev pub ArePut : List ColumnView → List ColumnView → List ColumnView → Type 0
ArePut [] [] [] = ⊤
ArePut (o ∷ os) (d ∷ ds) (e ∷ es) =
    (e.dtype ≡ o.dtype) × (e.rows ≡ o.rows ++ d.rows) × ArePut os ds es
ArePut os ds es = ⊥

-- each leaf of the trees has its column, and each column rows of its type
pub record AreLent (cs : List ColumnView) (ts : List Tree) : Type 0 where
  pub fit : All (LeavesFit cs) ts
  pub typed : All (λ c. AreTyped c.dtype c.rows) cs
