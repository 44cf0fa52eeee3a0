-- Laws of push-down: its rows are the function of the rows, and so are its faults.
use Rattle.std.specs.Prelude.{ℕ, List, length, All, Option, Some, None, Result, Ok, Err}
use Rattle.std.specs.Prelude.{MatchResult, ⊤}
use Rattle.vortex_errors.specs.declared.error.VortexError.{VortexError}
use Rattle.vortex_errors.specs.declared.error.VortexError.TheVariants as error
use Rattle.vortex_types.specs.ScalarView.{ScalarView}
use Rattle.vortex_types.specs.Typing.{HasType}
use Rattle.vortex_columns.specs.ColumnView.{AreTyped}
use Rattle.vortex_interface.specs.Meaning.{Meaning}
use Rattle.vortex_interface.specs.Outcomes.{HasCallRows, IsCallFault}
use Rattle.vortex_interface.specs.Functions.{Function, function_type, function_means}
use Rattle.vortex_columns.specs.Taken.{AreRowsOf}
use Rattle.vortex_arrays.specs.Dictionary.{DictView, decoded}
use Rattle.vortex_arrays.specs.PushDown.{inputs_of, AnswersPushDown}

-- the invariants of every dictionary column, and of its scalars
pub record AreKept (d : DictView) (scalars : List ScalarView) : Type 0 where
  pub codes : AreRowsOf d.values d.codes
  pub values : AreTyped d.values.dtype d.values.rows
  pub others : All (λ s. HasType s.dtype s.value) scalars

-- None, E3, E6 and E9 are independent of the rows
abbrev pub SaysNothing : Result (Option DictView) VortexError → Type 0
SaysNothing (Ok None) = ⊤
SaysNothing (Err (error.TypeMismatch p)) = ⊤
SaysNothing (Err (error.ArityMismatch a n)) = ⊤
SaysNothing (Err error.OutOfMemory) = ⊤
SaysNothing r = ⊥

module _ {V O : Type 0} (m : Meaning V O) where
  -- the function of the rows that the dictionary represents, and the others
  abbrev pub IsFaultOfRows : Function V O → DictView → ℕ → List ScalarView → VortexError → Type 0
  IsFaultOfRows f d k others e =
      IsCallFault (function_means m f) (inputs_of k (decoded d) others) (length d.codes) e

  abbrev pub AreRowsOfCall : Function V O → DictView → ℕ → List ScalarView → DictView → Type 0
  AreRowsOfCall f d k others e =
      HasCallRows (function_type m f) (function_means m f)
      (inputs_of k (decoded d) others) (length d.codes) (decoded e)

  -- the rows of the result are the function of the rows
  abbrev pub RowsAreOfRows : Type 0
  RowsAreOfRows = (f : Function V O) (d e : DictView) (k : ℕ) (others : List ScalarView)
      → AreKept d others → AnswersPushDown m f d k others (Ok (Some e))
      → AreRowsOfCall f d k others e

  -- None, E3, E6 and E9 aside, it fails exactly where the function of a row faults, with such a
  -- fault
  abbrev pub ErrsWhereRowsFault : Type 0
  ErrsWhereRowsFault =
      (f : Function V O) (d : DictView) (k : ℕ) (others : List ScalarView)
      (r : Result (Option DictView) VortexError)
      → AreKept d others → AnswersPushDown m f d k others r → ¬ SaysNothing r
      → MatchResult r
      (λ _. (e : VortexError) → ¬ IsFaultOfRows f d k others e) (IsFaultOfRows f d k others)
