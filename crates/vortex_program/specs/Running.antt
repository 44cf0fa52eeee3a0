-- What a program answers over a batch.
use Rattle.std.specs.Prelude.{◌≡◌, ◌<◌, ℕ, List, take, length, Some, None, slice_get, ⊤}
use Rattle.vortex_errors.specs.declared.error.VortexError.{VortexError}
use Rattle.vortex_errors.specs.Answers.{UnlessMemory}
use Rattle.vortex_columns.specs.ColumnView.{ColumnView}
use Rattle.vortex_interface.specs.Eval.{tree_type}
use Rattle.vortex_interface.specs.Execution.{LeavesFit, other_length}
use Rattle.vortex_interface.specs.Running.{KeepsRows}
use Rattle.vortex_functions.specs.Walks.{AllMean}
use Rattle.vortex_expressions.specs.Items.{Tree, meaning}
use Rattle.vortex_interface.specs.Rewrites.{Rewrites}
use Rattle.vortex_program.specs.Executing.{AllGive, FaultsAt, RefusesColumnsFirst}
use Rattle.vortex_program.specs.Reads.{Agree}
use Rattle.vortex_program.specs.declared.running.RunError.{RunError}
use Rattle.vortex_program.specs.declared.running.RunError.TheVariants as run

module _ (cs : List ColumnView) (n : ℕ) where
  -- the column has the type of the tree, n rows, and the tree's value in each row in which the
  -- tree has one
  pub record AnswersTree (t : Tree) (c : ColumnView) : Type 0 where
    pub fit : LeavesFit cs t
    pub lengths : other_length n cs ≡ None
    pub dtype : tree_type meaning t ≡ Some c.dtype
    pub count : length c.rows ≡ n
    pub kept : KeepsRows meaning cs n t c

  -- a column for each tree
  abbrev pub AnswersTrees : List Tree → List ColumnView → Type 0
  AnswersTrees = AllMean AnswersTree

-- of several trees that of this number faults in a row, and none before it does
pub record FaultsThere (cs : List ColumnView) (row : ℕ) (ts : List Tree) (k : ℕ) (e : VortexError)
    : Type 0 where
  pub tree : Tree
  pub there : slice_get ts k ≡ Some tree
  pub here : FaultsAt meaning cs row tree e
  pub before : AllGive meaning cs row (take k ts)

module _ (cs : List ColumnView) (n : ℕ) (ts : List Tree) where
  -- it is the first row in which a tree faults
  pub record FaultsFirstThere (row k : ℕ) (e : VortexError) : Type 0 where
    pub below : row < n
    pub before : (i : ℕ) → i < row → AllGive meaning cs i ts
    pub there : FaultsThere cs row ts k e

-- it is the first row in which a tree faults; or memory ran out
abbrev pub IsFault : List ColumnView → ℕ → List Tree → RunError → Type 0
IsFault cs n ts (run.Fault row k e) = FaultsFirstThere cs n ts row k e
IsFault cs n ts (run.Refused e) = ⊥
IsFault cs n ts run.OutOfMemory = ⊤

-- why trees return no columns: in a row one faults, as they run; or the columns are not valid for one,
-- as it was written; or memory ran out
abbrev pub RefusesTrees : List ColumnView → ℕ → List Tree → List Tree → RunError → Type 0
RefusesTrees cs n written optimized (run.Fault row k e) = FaultsFirstThere cs n optimized row k e
RefusesTrees cs n written optimized (run.Refused e) =
    UnlessMemory (RefusesColumnsFirst cs n written) e
RefusesTrees cs n written optimized run.OutOfMemory = ⊤

-- what trees return over columns they return over those that agree with them where trees as written
-- read them, and they fail so
abbrev pub UnreadColumnsChangeNothing : Type 0
UnreadColumnsChangeNothing =
    (n : ℕ) (written optimized : List Tree) (cs ds : List ColumnView)
    → AllMean (Rewrites meaning) written optimized → Agree n written cs ds
    → ((answers : List ColumnView) → AnswersTrees ds n written answers
    → AnswersTrees cs n written answers)
    × ((e : RunError) → RefusesTrees ds n written optimized e
    → RefusesTrees cs n written optimized e)
