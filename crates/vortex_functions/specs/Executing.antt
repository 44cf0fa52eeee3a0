-- Results of executing a tree, which may be borrowed.
use Rattle.std.specs.Prelude.{◌≡◌, ℕ, List, None, Result, IsOkAnd, ⊤}
use Rattle.std.specs.Cow.{cow_value}
use Rattle.std.specs.declared.borrow.Cow.{Cow}
use Rattle.vortex_errors.specs.declared.error.VortexError.{VortexError}
use Rattle.vortex_errors.specs.Answers.{Answers}
use Rattle.vortex_columns.specs.ColumnView.{ColumnView}
use Rattle.vortex_interface.specs.Meaning.{Meaning}
use Rattle.vortex_interface.specs.Trees.{Tree, leaf}
use Rattle.vortex_interface.specs.Eval.{HasTreeRows, IsFirstFault}
use Rattle.vortex_interface.specs.Execution.{LeafFits, LeavesFit, other_length, Executes}
use Rattle.vortex_interface.specs.Execution.{RefusesColumns, RefusesExecution}
use Rattle.vortex_functions.specs.Binding.{IsLeaf, IsBorrowedLeaf}

abbrev Answer : Type 0
Answer = Result (Cow ColumnView) VortexError

module _ {V O : Type 0} (m : Meaning V O) (columns : List ColumnView) (n : ℕ) (t : Tree V O) where
  -- the column, which may be borrowed, has the tree's rows
  abbrev pub HasRows : Cow ColumnView → Type 0
  HasRows c = HasTreeRows m columns n t (cow_value c)

  -- over columns that match: the tree's rows, or the first fault
  abbrev pub AnswersTree : Answer → Type 0
  AnswersTree result = Answers result HasRows (IsFirstFault m columns n t)

  -- the same for an owned column
  abbrev pub AnswersCallRows : Result ColumnView VortexError → Type 0
  AnswersCallRows result = Answers result (HasTreeRows m columns n t) (IsFirstFault m columns n t)

  -- over any columns
  abbrev pub AnswersExecution : Answer → Type 0
  AnswersExecution result =
      Answers result (λ c. Executes m columns n t (cow_value c)) (RefusesExecution m columns n t)

-- the column of a lone leaf is borrowed, and nothing is allocated
abbrev pub LendsLeaf : {V O : Type 0} → List ColumnView → Tree V O → Answer → Type 0
LendsLeaf columns t result = IsLeaf t → IsOkAnd result (IsBorrowedLeaf columns t)

-- what a node alone requires of the columns: a leaf, that its own exists
abbrev pub NodeFits : {V O : Type 0} → List ColumnView → Tree V O → Type 0
NodeFits columns (leaf l) = LeafFits columns l
NodeFits columns t = ⊤

-- the columns match the leaves, and each has that many rows
abbrev pub Fits : {V O : Type 0} → List ColumnView → ℕ → Tree V O → Type 0
Fits columns n t = LeavesFit columns t × (other_length n columns ≡ None)

-- whether the columns match, and the error if they do not
abbrev pub AnswersColumns : {V O A : Type 0} → List ColumnView → ℕ → Tree V O
    → Result A VortexError → Type 0
AnswersColumns columns n t result =
    Answers result (λ _. Fits columns n t) (RefusesColumns columns n t)
