-- Running a function over a dictionary's values instead of its rows.
use Rattle.std.specs.Prelude.{◌≡◌, ℕ, List, ◌∷◌, ◌++◌, map, length, take, drop, true, false}
use Rattle.std.specs.Prelude.{Option, Some, None, Result, MatchOption}
use Rattle.vortex_errors.specs.declared.error.VortexError.{VortexError}
use Rattle.vortex_errors.specs.declared.error.VortexError.TheVariants.{ArityMismatch}
use Rattle.vortex_errors.specs.Answers.{Answers}
use Rattle.vortex_types.specs.LogicalTypes.{LogicalType}
use Rattle.vortex_types.specs.ScalarView.{ScalarView}
use Rattle.vortex_columns.specs.ColumnView.{ColumnView, constant_column}
use Rattle.vortex_interface.specs.Meaning.{Meaning, fits}
use Rattle.vortex_interface.specs.Outcomes.{types_in, HasCallRows, IsCallFault}
use Rattle.vortex_interface.specs.Functions.{Function, function_arity, function_type}
use Rattle.vortex_interface.specs.Functions.{function_means, function_infallible, IsMismatchOf}
use Rattle.vortex_arrays.specs.Dictionary.{DictView, AllCoded}

-- each scalar in that many rows
abbrev pub constants : ℕ → List ScalarView → List ColumnView
constants n scalars = map (λ s. constant_column s n) scalars

-- the arguments of a call: a column at its index among the others, which are constants
abbrev pub inputs_of : ℕ → ColumnView → List ScalarView → List ColumnView
inputs_of k c others =
    constants (length c.rows) (take k others) ++ c ∷ constants (length c.rows) (drop k others)

module _ {V O : Type 0} (m : Meaning V O) (f : Function V O) where
  -- the function takes that many arguments, and these types
  pub record TakesInputs (inputs : List ColumnView) : Type 0 where
    pub arity : fits (function_arity m f) (length inputs) ≡ true
    pub dtype : LogicalType
    pub accepted : function_type m f (types_in inputs) ≡ Some dtype

  -- first a count that does not fit, then types that are not accepted, as in binding a call
  pub data RefusesInputs (inputs : List ColumnView) (e : VortexError) : Type 0 where
    count : fits (function_arity m f) (length inputs) ≡ false
        → e ≡ ArityMismatch (function_arity m f) (length inputs) → RefusesInputs inputs e
    types : fits (function_arity m f) (length inputs) ≡ true
        → function_type m f (types_in inputs) ≡ None → IsMismatchOf f (types_in inputs) e
        → RefusesInputs inputs e

  -- the values are valid for the rows: none of them faults, or each has a code
  abbrev pub MayRunOver : DictView → Type 0
  MayRunOver d = function_infallible m f ≡ false → AllCoded d

  -- the same codes, and for each the function of its value; also for values without a code
  pub record IsPushedDown (d : DictView) (inputs : List ColumnView) (e : DictView) : Type 0 where
    pub codes : e.codes ≡ d.codes
    pub values : HasCallRows (function_type m f) (function_means m f) inputs (length d.values.rows)
        e.values

  -- an error as in binding a call, or else the fault of a value
  pub data RefusesPushDown (d : DictView) (inputs : List ColumnView) (e : VortexError) : Type 0
    where
      binding : RefusesInputs inputs e → RefusesPushDown d inputs e
      fault : TakesInputs inputs → MayRunOver d
          → IsCallFault (function_means m f) inputs (length d.values.rows) e
          → RefusesPushDown d inputs e

  -- none exactly where the function takes the inputs and may not run over the values
  abbrev pub PushesDown : DictView → List ColumnView → Option DictView → Type 0
  PushesDown d inputs o =
      TakesInputs inputs
      × MatchOption o (¬ MayRunOver d) (λ e. MayRunOver d × IsPushedDown d inputs e)

  -- the dictionary is at index k among the others, which are constants
  abbrev pub AnswersPushDown : DictView → ℕ → List ScalarView
      → Result (Option DictView) VortexError → Type 0
  AnswersPushDown d k others result =
      let inputs = inputs_of k d.values others in
      Answers result (PushesDown d inputs) (RefusesPushDown d inputs)
