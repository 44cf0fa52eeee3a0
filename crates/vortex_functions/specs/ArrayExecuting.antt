-- Results of executing an array, which may be borrowed. All its columns are in it.
use Rattle.std.specs.Prelude.{◌≡◌, ◌<◌, ℕ, [], Result, IfSome, IsOkAnd}
use Rattle.std.specs.declared.borrow.Cow.{Cow}
use Rattle.std.specs.declared.borrow.Cow.TheVariants.{Borrowed, Owned}
use Rattle.vortex_errors.specs.declared.error.VortexError.{VortexError}
use Rattle.vortex_columns.specs.ColumnView.{ColumnView}
use Rattle.vortex_types.specs.Values.{Value}
use Rattle.vortex_interface.specs.Outcomes.{gives}
use Rattle.vortex_interface.specs.Meaning.{Meaning}
use Rattle.vortex_interface.specs.Eval.{eval}
use Rattle.vortex_functions.specs.Executing.{HasRows, AnswersTree}
use Rattle.vortex_functions.specs.Arrays.{Array, tree_in, rows_in, column_in}

abbrev Answer : Type 0
Answer = Result (Cow ColumnView) VortexError

module _ {V O : Type 0} (m : Meaning V O) (a : Array V O) where
  -- the column, which may be borrowed, has the array's rows
  abbrev pub HasArrayRows : Cow ColumnView → Type 0
  HasArrayRows c = HasRows m [] (rows_in a) (tree_in a) c

  -- the array's rows, or the first fault
  abbrev pub AnswersArray : Answer → Type 0
  AnswersArray result = AnswersTree m [] (rows_in a) (tree_in a) result

abbrev pub IsBorrowed : ColumnView → Cow ColumnView → Type 0
IsBorrowed c (Borrowed borrowed) = borrowed.now ≡ c
IsBorrowed c (Owned d) = ⊥

-- the column of a lone column leaf is borrowed, and nothing is allocated
abbrev pub LendsColumn : {V O : Type 0} → Array V O → Answer → Type 0
LendsColumn a result = IfSome (column_in a) (λ c. IsOkAnd result (IsBorrowed c))

-- in each row in which the first array has a value the second one has the same
abbrev pub KeepsValues : {V O : Type 0} → Meaning V O → Array V O → Array V O → Type 0
KeepsValues m a b =
    (i : ℕ) (w : Value) → i < rows_in a → eval m [] (tree_in a) i ≡ gives w
    → eval m [] (tree_in b) i ≡ gives w
