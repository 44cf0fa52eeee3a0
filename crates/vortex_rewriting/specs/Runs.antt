-- Results of executing after a run of rules.
use Rattle.std.specs.Prelude.{ℕ, List, [], Option, Result}
use Rattle.std.specs.Cow.{cow_value}
use Rattle.std.specs.declared.borrow.Cow.{Cow}
use Rattle.vortex_errors.specs.declared.error.VortexError.{VortexError}
use Rattle.vortex_errors.specs.Answers.{Answers}
use Rattle.vortex_columns.specs.ColumnView.{ColumnView}
use Rattle.vortex_interface.specs.Meaning.{Meaning}
use Rattle.vortex_interface.specs.Trees.{Tree}
use Rattle.vortex_interface.specs.Rules.{Rules}
use Rattle.vortex_interface.specs.Running.{ExecutesAfter, RefusesAfter, HasRowsAfter, IsFaultAfter}
use Rattle.vortex_functions.specs.Binding.{IsLeaf, IsBorrowedLeaf}
use Rattle.vortex_functions.specs.Arrays.{Array, tree_in, rows_in}
use Rattle.vortex_rewriting.specs.Rules.{expression_rule, array_rule}
use Rattle.vortex_rewriting.specs.Driving.{first_rule}

module _ {V O : Type 0} (m : Meaning V O) (r : Rules V O) where
  -- the rules of the driver, for expressions and for array trees
  abbrev pub expression_step : Tree V O → Option (Tree V O)
  expression_step = first_rule (expression_rule m r)

  abbrev pub array_step : Tree V O → Option (Tree V O)
  array_step = first_rule (array_rule m r)

  module _ (limit : ℕ) where
    -- the column, which may be borrowed, has the rows of the tree that a run leads to; if that tree
    -- is a lone leaf it is the leaf's column, borrowed
    pub record IsRunAnswer (cs : List ColumnView) (n : ℕ) (t : Tree V O) (c : Cow ColumnView)
        : Type 0 where
      pub executes : ExecutesAfter m cs n expression_step limit t (cow_value c)
      pub borrowed : IsLeaf executes.rows.last → IsBorrowedLeaf cs executes.rows.last c

    -- over columns, each of that many rows
    abbrev pub AnswersRun : List ColumnView → ℕ → Tree V O → Result (Cow ColumnView) VortexError
        → Type 0
    AnswersRun cs n t result =
        Answers result (IsRunAnswer cs n t) (RefusesAfter m cs n expression_step limit t)

    -- all columns of an array tree are in it
    abbrev pub AnswersRunOfArray : Array V O → Result ColumnView VortexError → Type 0
    AnswersRunOfArray a result =
        Answers result (HasRowsAfter m [] (rows_in a) array_step limit (tree_in a))
        (IsFaultAfter m [] (rows_in a) array_step limit (tree_in a))
