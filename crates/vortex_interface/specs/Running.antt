-- Results of executing the tree that a run of steps leads to.
use Rattle.std.specs.Prelude.{◌≡◌, ℕ, ◌<◌, List, Option, None}
use Rattle.vortex_errors.specs.declared.error.VortexError.{VortexError}
use Rattle.vortex_types.specs.Values.{Value}
use Rattle.vortex_columns.specs.ColumnView.{ColumnView, row}
use Rattle.vortex_interface.specs.Outcomes.{gives, Fault, faults}
use Rattle.vortex_interface.specs.Meaning.{Meaning}
use Rattle.vortex_interface.specs.Trees.{Tree}
use Rattle.vortex_interface.specs.Eval.{eval, HasTreeRows, IsFirstFault}
use Rattle.vortex_interface.specs.Execution.{LeavesFit, other_length, RefusesColumns}
use Rattle.vortex_interface.specs.Driver.{RunsTo}

module _ {V O : Type 0} (m : Meaning V O) (cs : List ColumnView) (n : ℕ) where
  -- in each of n rows in which the tree has a value the column has the same
  abbrev pub KeepsRows : Tree V O → ColumnView → Type 0
  KeepsRows t c =
      (i : ℕ) (w : Value) → i < n → eval m cs t i ≡ gives w → row c.rows i ≡ w

  -- some row of the tree faults
  abbrev pub FaultsSomewhere : Tree V O → Type 0
  FaultsSomewhere t = (i : ℕ) × (i < n) × (x : Fault) × (eval m cs t i ≡ faults x)

  module _ (rule : Tree V O → Option (Tree V O)) (limit : ℕ) (t : Tree V O) where
    -- the column has the rows of the tree that a run leads to, and keeps the values of the old one
    pub record HasRowsAfter (c : ColumnView) : Type 0 where
      pub last : Tree V O
      pub run : RunsTo rule limit t last
      pub rows : HasTreeRows m cs n last c
      pub kept : KeepsRows t c

    -- the first fault of the tree that a run leads to, if some row of the old one faults too
    pub record IsFaultAfter (e : VortexError) : Type 0 where
      pub last : Tree V O
      pub run : RunsTo rule limit t last
      pub first : IsFirstFault m cs n last e
      pub old : FaultsSomewhere t

    -- the leaves of the old tree match, each column has the row count, and the result is that
    -- column
    pub record ExecutesAfter (c : ColumnView) : Type 0 where
      pub fit : LeavesFit cs t
      pub lengths : other_length n cs ≡ None
      pub rows : HasRowsAfter c

    -- first columns that do not match the old tree, then such a fault
    pub data RefusesAfter (e : VortexError) : Type 0 where
      misfit : RefusesColumns cs n t e → RefusesAfter e
      faulty : LeavesFit cs t → other_length n cs ≡ None → IsFaultAfter e → RefusesAfter e
