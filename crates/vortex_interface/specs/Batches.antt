-- A table cut into batches of rows, and the results of a tree over the batches and over the whole.
use Rattle.std.specs.Prelude.{◌≡◌, ◌↔◌, ◌⊎◌, ◌++◌, ◌+◌, ℕ, List, [], ◌∷◌, take, drop, None, ⊤}
use Rattle.vortex_errors.specs.declared.error.VortexError.{VortexError}
use Rattle.vortex_types.specs.Values.{Value}
use Rattle.vortex_columns.specs.ColumnView.{ColumnView}
use Rattle.vortex_interface.specs.Meaning.{Meaning}
use Rattle.vortex_interface.specs.Trees.{Tree}
use Rattle.vortex_interface.specs.Bound.{IsBound}
use Rattle.vortex_interface.specs.Execution.{LeavesFit, other_length, Executes, RefusesExecution}

-- columns of that many rows
pub record Batch : Type 0 where
  pub count : ℕ
  pub columns : List ColumnView

-- that many rows of a column, from a given one on
pub record IsPart (from count : ℕ) (c d : ColumnView) : Type 0 where
  pub dtype : d.dtype ≡ c.dtype
  pub rows : d.rows ≡ take count (drop from c.rows)

-- of each column
abbrev pub AreParts : ℕ → ℕ → List ColumnView → List ColumnView → Type 0
AreParts from count [] [] = ⊤
AreParts from count (c ∷ cs) (d ∷ ds) = IsPart from count c d × AreParts from count cs ds
AreParts from count [] (d ∷ ds) = ⊥
AreParts from count (c ∷ cs) [] = ⊥

-- batches that are, one after another, n rows of columns without those before this one
abbrev pub AreBatches : List ColumnView → ℕ → ℕ → List Batch → Type 0
AreBatches cs n from [] = from ≡ n
AreBatches cs n from (b ∷ bs) =
    AreParts from b.count cs b.columns × AreBatches cs n (from + b.count) bs

-- the rows of columns, one column after another
abbrev pub joined_rows : List ColumnView → List Value
joined_rows [] = []
joined_rows (c ∷ cs) = c.rows ++ joined_rows cs

module _ {V O : Type 0} (m : Meaning V O) (t : Tree V O) where
  -- each batch's result is the column at its position
  abbrev pub AllExecute : List Batch → List ColumnView → Type 0
  AllExecute [] [] = ⊤
  AllExecute (b ∷ bs) (c ∷ cs) = Executes m b.columns b.count t c × AllExecute bs cs
  AllExecute [] (c ∷ cs) = ⊥
  AllExecute (b ∷ bs) [] = ⊥

  abbrev pub IsRefused : Batch → Type 0
  IsRefused b = (e : VortexError) × RefusesExecution m b.columns b.count t e

  abbrev pub SomeRefused : List Batch → Type 0
  SomeRefused [] = ⊥
  SomeRefused (b ∷ bs) = IsRefused b ⊎ SomeRefused bs

  -- the results for the batches, one after another, are the result for the table; and some batch
  -- fails exactly where the table does
  pub record AnswerAsOne (table : Batch) (bs : List Batch) : Type 0 where
    pub rows : (c : ColumnView) (ds : List ColumnView)
        → Executes m table.columns table.count t c → AllExecute bs ds → joined_rows ds ≡ c.rows
    pub refused : IsRefused table ↔ SomeRefused bs

-- for expressions over columns that match them, cut anywhere
abbrev pub BatchesAnswerAsOne : {V O : Type 0} → Meaning V O → Type 0
BatchesAnswerAsOne {V} {O} m = (t : Tree V O) (cs : List ColumnView) (n : ℕ) (bs : List Batch)
    → IsBound t → LeavesFit cs t → other_length n cs ≡ None → AreBatches cs n 0 bs
    → AnswerAsOne m t (record { count = n; columns = cs }) bs
