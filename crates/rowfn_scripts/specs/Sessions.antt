-- What a line does to the session that the lines before it made.
use Rattle.std.specs.Prelude.{◌≡◌, ◌==◌, ◌&&◌, ℕ, List, [], ◌∷◌, ◌++◌, length, take, drop, reverse}
use Rattle.std.specs.Prelude.{nat_le, Bool, Option, Some, None, is_some, is_none, IfSome, codes}
use Rattle.std.specs.Prelude.{if◌then◌else◌}
use Rattle.std.specs.Fmt.{decimal}
use Rattle.vortex_errors.specs.declared.arity.Arity.{Arity}
use Rattle.vortex_errors.specs.declared.arity.Arity.TheVariants.{Exact, Variadic}
use Rattle.vortex_errors.specs.declared.error.MismatchPlace.{MismatchPlace}
use Rattle.vortex_errors.specs.declared.error.VortexError.{VortexError}
use Rattle.vortex_errors.specs.declared.error.VortexError.TheVariants.{ScopeMismatch, TypeMismatch}
use Rattle.vortex_types.specs.LogicalTypes.{LogicalType, Fields, no_fields, with_field, find_field}
use Rattle.vortex_types.specs.ScalarView.{ScalarView}
use Rattle.vortex_columns.specs.ColumnView.{ColumnView}
use Rattle.vortex_columns.specs.Printing.{truth_text, column_text}
use Rattle.vortex_interface.specs.Meaning.{Meaning}
use Rattle.vortex_interface.specs.Shipped.{Shipped, shipped_arity, shipped_called, shipped_place}
use Rattle.vortex_interface.specs.Functions.{ours}
use Rattle.vortex_interface.specs.Trees.{Tree, leaf, place, constant, call as call_tree, trees_of}
use Rattle.vortex_interface.specs.Eval.{tree_type, tree_types, types_or_none}
use Rattle.vortex_interface.specs.Printing.{tree_text}
use Rattle.vortex_interface.specs.Execution.{Executes, RefusesExecution}
use Rattle.vortex_interface.specs.Rules.{Rules}
use Rattle.vortex_interface.specs.Weights.{weight_told}
use Rattle.vortex_interface.specs.Driver.{step, RunsTo}
use Rattle.vortex_interface.specs.Running.{ExecutesAfter, RefusesAfter}
use Rattle.vortex_rewriting.specs.Runs.{expression_step}
use Rattle.rowfn_lines.specs.Commands.{Command, nothing, malformed, rows, column, get, literal}
use Rattle.rowfn_lines.specs.Commands.{call, show, optimize, run, run_after}

-- the row count once it is given, the columns and the fields that name them in the order of their
-- lines, the trees with the last one first, and the printed text
pub record SessionView (V O : Type 0) : Type 0 where
  pub row_count : Option ℕ
  pub fields : Fields
  pub columns : List ColumnView
  pub stack : List (Tree V O)
  pub printed : List ℕ

pub data Step (V O : Type 0) : Type 0 where
  goes_on : SessionView V O → Step V O
  refuses : VortexError → Step V O
  is_malformed : Step V O

abbrev pub fresh : {V O : Type 0} → SessionView V O
fresh = record {
  row_count = None;
  fields = no_fields;
  columns = [];
  stack = [];
  printed = [];
}

-- how many trees a function takes: the least count that its arity allows
abbrev pub least_count : Arity → ℕ
least_count (Exact wanted) = wanted
least_count (Variadic least most) = least

-- the last trees, in their order, and the rest, if there are that many
abbrev pub taken : {V O : Type 0} → ℕ → List (Tree V O) → Option (List (Tree V O) × List (Tree V O))
taken n stack =
    if nat_le n (length stack) then Some (reverse (take n stack), drop n stack) else None

-- a column's text, and a newline
abbrev pub column_line : ColumnView → List ℕ
column_line c = column_text c ++ (10 ∷ [])

-- the number of steps of a run, and whether no rule is left
abbrev pub steps_text : ℕ → Bool → List ℕ
steps_text n done =
    (codes "steps " ++ decimal n) ++ (codes " done " ++ (truth_text done ++ (10 ∷ [])))

module _ {V O : Type 0} where
  -- the line of the row count comes once, before every other command
  abbrev pub with_rows : ℕ → SessionView V O → Option ℕ → Step V O
  with_rows n s None = goes_on (record s { row_count = Some n })
  with_rows n s (Some k) = is_malformed

  abbrev pub after_rows : Option ℕ → (ℕ → Step V O) → Step V O
  after_rows None f = is_malformed
  after_rows (Some n) f = f n

  -- a column has the row count and a new name
  abbrev pub added : List ℕ → ColumnView → SessionView V O → SessionView V O
  added name c s =
      record s { fields = with_field s.fields name c.dtype; columns = s.columns ++ c ∷ [] }

  abbrev pub with_column : List ℕ → ColumnView → SessionView V O → ℕ → Step V O
  with_column name c s n =
      if (length c.rows == n) && is_none (find_field name s.fields) then goes_on (added name c s)
      else is_malformed

  -- a tree on the rest of the stack
  abbrev pub pushed : Tree V O → List (Tree V O) → SessionView V O → SessionView V O
  pushed t kept s = record s { stack = t ∷ kept }

  abbrev pub with_leaf : List ℕ → SessionView V O → Option (ℕ × LogicalType) → Step V O
  with_leaf name s None = refuses ScopeMismatch
  with_leaf name s (Some p) = goes_on (pushed (leaf (place p.0 name p.1)) s.stack s)

  abbrev pub with_literal : ScalarView → SessionView V O → Step V O
  with_literal l s = goes_on (pushed (constant l) s.stack s)

  -- a text with a newline is printed
  abbrev pub shown_by : List ℕ → SessionView V O → Step V O
  shown_by text s = goes_on (record s { printed = s.printed ++ (text ++ 10 ∷ []) })

  -- the tree's text, which each tree of a script has
  abbrev pub ShowsTop : Option ℕ → List (Tree V O) → SessionView V O → Step V O → Type 0
  ShowsTop None stack s r = r ≡ is_malformed
  ShowsTop (Some n) [] s r = r ≡ is_malformed
  ShowsTop (Some n) (t ∷ stack) s r = IfSome (tree_text t) (λ text. r ≡ shown_by text s)

  module _ (m : Meaning V O) where
    abbrev pub call_of : Shipped → List (Tree V O) → Tree V O
    call_of f ts = call_tree (ours f) (trees_of ts)

    -- E3 at that place; a function without one accepts all types
    abbrev pub refused_at : Option MismatchPlace → Step V O
    refused_at None = is_malformed
    refused_at (Some p) = refuses (TypeMismatch p)

    -- a call without a type fails with its function's error for types
    abbrev pub with_tree : Shipped → SessionView V O → List (Tree V O) → List (Tree V O) → Step V O
    with_tree f s ts stack =
        if is_some (tree_type m (call_of f ts))
        then goes_on (pushed (call_of f ts) stack s)
        else refused_at (shipped_place f (types_or_none (tree_types m (trees_of ts))))

    abbrev pub with_taken : Shipped → SessionView V O → Option (List (Tree V O) × List (Tree V O))
        → Step V O
    with_taken f s None = is_malformed
    with_taken f s (Some p) = with_tree f s p.0 p.1

    -- the named function takes its arguments from the stack
    abbrev pub with_call : SessionView V O → Option Shipped → Step V O
    with_call s None = is_malformed
    with_call s (Some f) = with_taken f s (taken (least_count (shipped_arity f)) s.stack)

    -- the column of the tree is printed, or the tree fails: with a row's fault, as
    -- `Fitting` shows
    pub data Runs (n : ℕ) (t : Tree V O) (s : SessionView V O) (r : Step V O) : Type 0 where
      prints : (c : ColumnView) → Executes m s.columns n t c
          → r ≡ goes_on (record s { printed = s.printed ++ column_line c }) → Runs n t s r
      refused : (e : VortexError) → RefusesExecution m s.columns n t e
          → r ≡ refuses e → Runs n t s r

    abbrev pub RunsTop : Option ℕ → List (Tree V O) → SessionView V O → Step V O → Type 0
    RunsTop None stack s r = r ≡ is_malformed
    RunsTop (Some n) [] s r = r ≡ is_malformed
    RunsTop (Some n) (t ∷ stack) s r = Runs n t s r

    module _ (rs : Rules V O) where
      -- another tree replaces the last one, and the number of steps to it is printed
      abbrev pub optimized : ℕ → Tree V O → List (Tree V O) → SessionView V O → Step V O
      optimized n last stack s =
          let done = is_none (step (expression_step m rs) last) in
          goes_on
          (record s { stack = last ∷ stack; printed = s.printed ++ steps_text n done })

      -- at most as many steps lead to it as the last tree weighs, to where no rule is left if fewer
      pub record Optimizes (t : Tree V O) (stack : List (Tree V O)) (s : SessionView V O)
          (r : Step V O) : Type 0 where
        pub last : Tree V O
        pub run : RunsTo (expression_step m rs) (weight_told m t) t last
        pub is : r ≡ optimized run.0 last stack s

      abbrev pub OptimizesTop : Option ℕ → List (Tree V O) → SessionView V O → Step V O → Type 0
      OptimizesTop None stack s r = r ≡ is_malformed
      OptimizesTop (Some n) [] s r = r ≡ is_malformed
      OptimizesTop (Some n) (t ∷ stack) s r = Optimizes t stack s r

      -- the column of the tree after a run of at most that many steps is printed, or that tree
      -- fails: with a fault of one of its rows, as `Fitting` shows
      pub data RunsAfter (limit n : ℕ) (t : Tree V O) (s : SessionView V O) (r : Step V O)
          : Type 0 where
        prints_after : (c : ColumnView)
            → ExecutesAfter m s.columns n (expression_step m rs) limit t c
            → r ≡ goes_on (record s { printed = s.printed ++ column_line c })
            → RunsAfter limit n t s r
        refused_after : (e : VortexError)
            → RefusesAfter m s.columns n (expression_step m rs) limit t e
            → r ≡ refuses e → RunsAfter limit n t s r

      abbrev pub RunsAfterTop : ℕ → Option ℕ → List (Tree V O) → SessionView V O → Step V O
          → Type 0
      RunsAfterTop limit None stack s r = r ≡ is_malformed
      RunsAfterTop limit (Some n) [] s r = r ≡ is_malformed
      RunsAfterTop limit (Some n) (t ∷ stack) s r = RunsAfter limit n t s r

      -- by the command of the line
      abbrev pub StepsTo : Command → SessionView V O → Step V O → Type 0
      StepsTo nothing s r = r ≡ goes_on s
      StepsTo malformed s r = r ≡ is_malformed
      StepsTo (rows n) s r = r ≡ with_rows n s s.row_count
      StepsTo (column name c) s r = r ≡ after_rows s.row_count (with_column name c s)
      StepsTo (get name) s r =
          r ≡ after_rows s.row_count (λ n. with_leaf name s (find_field name s.fields))
      StepsTo (literal l) s r = r ≡ after_rows s.row_count (λ n. with_literal l s)
      StepsTo (call words said) s r =
          r ≡ after_rows s.row_count (λ n. with_call s (shipped_called words said))
      StepsTo show s r = ShowsTop s.row_count s.stack s r
      StepsTo optimize s r = OptimizesTop s.row_count s.stack s r
      StepsTo run s r = RunsTop s.row_count s.stack s r
      StepsTo (run_after limit) s r = RunsAfterTop limit s.row_count s.stack s r
