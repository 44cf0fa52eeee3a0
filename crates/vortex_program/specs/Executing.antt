-- What trees answer over columns, and the first row in which one faults.
use Rattle.std.specs.Prelude.{◌≡◌, ◌<◌, ◌≤◌, ◌+◌, ◌⊎◌, ℕ, List, [], ◌∷◌, Option, Result, MatchOption, ⊤}
use Rattle.std.specs.declared.alloc.Global.{Global}
use Rattle.std.specs.Prelude.{Vec}
use Rattle.vortex_errors.specs.declared.error.VortexError.{VortexError}
use Rattle.vortex_errors.specs.Answers.{Answers}
use Rattle.vortex_columns.specs.ColumnView.{ColumnView}
use Rattle.vortex_interface.specs.Meaning.{Meaning}
use Rattle.vortex_interface.specs.Outcomes.{Fault, faults, error_of, GivesValue}
use Rattle.vortex_interface.specs.Trees.{Tree}
use Rattle.vortex_interface.specs.Eval.{eval}
use Rattle.vortex_interface.specs.Execution.{Executes, RefusesColumns, RefusesExecution}
use Rattle.vortex_functions.specs.Executing.{Fits}
use Rattle.vortex_functions.specs.Walks.{AllMean}

-- a tree faults in row i, with that error
pub record FaultsAt {V O : Type 0} (m : Meaning V O) (cs : List ColumnView) (i : ℕ) (t : Tree V O)
    (e : VortexError) : Type 0 where
  pub fault : Fault
  pub here : eval m cs t i ≡ faults fault
  pub told : e ≡ error_of fault

module _ {V O : Type 0} (m : Meaning V O) (cs : List ColumnView) (i : ℕ) where
  -- the fault of the first tree that faults in row i
  abbrev pub FaultsFirst : List (Tree V O) → VortexError → Type 0
  FaultsFirst [] e = ⊥
  FaultsFirst (t ∷ ts) e =
      FaultsAt m cs i t e ⊎ (GivesValue (eval m cs t i) × FaultsFirst ts e)

  -- no tree faults in row i
  abbrev pub AllGive : List (Tree V O) → Type 0
  AllGive [] = ⊤
  AllGive (t ∷ ts) = GivesValue (eval m cs t i) × AllGive ts

-- no tree faults in the rows from the first to before the end
abbrev pub AllGiveWithin : {V O : Type 0} → Meaning V O → List ColumnView → ℕ → ℕ
    → List (Tree V O) → Type 0
AllGiveWithin m cs first end ts =
    (i : ℕ) → first ≤ i → i < end → AllGive m cs i ts

-- columns that do not serve the first tree that they do not serve
abbrev pub RefusesColumnsFirst : {V O : Type 0} → List ColumnView → ℕ → List (Tree V O)
    → VortexError → Type 0
RefusesColumnsFirst cs n [] e = ⊥
RefusesColumnsFirst cs n (t ∷ ts) e =
    RefusesColumns cs n t e ⊎ (Fits cs n t × RefusesColumnsFirst cs n ts e)

abbrev pub AllFit : {V O : Type 0} → List ColumnView → ℕ → List (Tree V O) → Type 0
AllFit cs n [] = ⊤
AllFit cs n (t ∷ ts) = Fits cs n t × AllFit cs n ts

module _ {V O : Type 0} (m : Meaning V O) (cs : List ColumnView) (n : ℕ) where
  -- the refusal of the first tree that is refused: those before it have columns
  abbrev pub RefusesFirst : List (Tree V O) → VortexError → Type 0
  RefusesFirst [] e = ⊥
  RefusesFirst (t ∷ ts) e =
      RefusesExecution m cs n t e ⊎ ((c : ColumnView) × Executes m cs n t c × RefusesFirst ts e)

  -- a column for each tree
  abbrev pub AnswersAll : List (Tree V O) → Result (Vec ColumnView Global) VortexError → Type 0
  AnswersAll ts result =
      Answers result (λ ds. AllMean (Executes m cs n) ts ds.items) (RefusesFirst ts)

  -- the first row in which a tree faults
  pub record IsFirstFaultyRow (ts : List (Tree V O)) (i : ℕ) (e : VortexError) : Type 0 where
    pub below : i < n
    pub here : FaultsFirst m cs i ts e
    pub before : (k : ℕ) → k < i → AllGive m cs k ts

  -- the one row that may be the first in which a tree faults: none faults in a row before it, and
  -- where none faults in it, none does at all
  pub record IsSuspect (ts : List (Tree V O)) (i : ℕ) : Type 0 where
    pub below : i < n
    pub before : AllGiveWithin m cs 0 i ts
    pub after : AllGiveWithin m cs 0 (i + 1) ts → AllGiveWithin m cs 0 n ts

  abbrev pub AnswersFirstFault : List (Tree V O) → Result (Option (ℕ × VortexError)) VortexError
      → Type 0
  AnswersFirstFault ts result =
      Answers result
      (λ found.
      MatchOption found ((k : ℕ) → k < n → AllGive m cs k ts)
      (λ p. IsFirstFaultyRow ts p.0 p.1))
      (RefusesColumnsFirst cs n ts)
