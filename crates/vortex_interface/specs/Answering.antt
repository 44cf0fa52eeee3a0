-- Results of the calls of a function; the call's result is the last argument.
use Rattle.std.specs.Prelude.{◌≡◌, ℕ, List, Some, map, Result, MatchResult}
use Rattle.vortex_types.specs.declared.dtype.DType.{DType}
use Rattle.vortex_errors.specs.declared.error.VortexError.{VortexError}
use Rattle.vortex_errors.specs.Answers.{Answers}
use Rattle.vortex_types.specs.TypeOf.{type_of}
use Rattle.vortex_columns.specs.ColumnView.{ColumnView}
use Rattle.vortex_interface.specs.Outcomes.{HasCallRows, IsCallFault}
use Rattle.vortex_interface.specs.Meaning.{Meaning}
use Rattle.vortex_interface.specs.Shipped.{Shipped, shipped_type, shipped_means}
use Rattle.vortex_interface.specs.Functions.{Function, function_type, function_means}
use Rattle.vortex_interface.specs.Functions.{RefusesShipped, RefusesCustom, RefusesTypes}

-- A shipped function: the return type, or E3, without allocating; and a column of that type with
-- each row's value, over inputs of that many rows, or the fault of a row.
module _ (s : Shipped) where
  abbrev pub AnswersShippedType : List DType → Result DType VortexError → Type 0
  AnswersShippedType types result =
      let ts = map type_of types in
      MatchResult result (λ t. shipped_type s ts ≡ Some (type_of t)) (RefusesShipped s ts)

  abbrev pub AnswersShipped : List ColumnView → ℕ → Result ColumnView VortexError → Type 0
  AnswersShipped inputs n result =
      let Faults = IsCallFault (shipped_means s) inputs n in
      Answers result (HasCallRows (shipped_type s) (shipped_means s) inputs n) Faults

module _ {V O : Type 0} (m : Meaning V O) where
  -- the same for a caller's function, which may run out of memory for its type
  abbrev pub AnswersType : V → O → List DType → Result DType VortexError → Type 0
  AnswersType f o types result =
      let ts = map type_of types in
      Answers result (λ t. m.return_type f o ts ≡ Some (type_of t)) (RefusesCustom m f o ts)

  abbrev pub AnswersCall : V → O → List ColumnView → ℕ → Result ColumnView VortexError → Type 0
  AnswersCall f o inputs n result =
      let Faults = IsCallFault (m.means f o) inputs n in
      Answers result (HasCallRows (m.return_type f o) (m.means f o) inputs n) Faults

  -- the same for either
  abbrev pub AnswersFunctionType : Function V O → List DType → Result DType VortexError → Type 0
  AnswersFunctionType f types result =
      let ts = map type_of types in
      MatchResult result (λ t. function_type m f ts ≡ Some (type_of t)) (RefusesTypes m f ts)

  abbrev pub AnswersFunction : Function V O
      → List ColumnView → ℕ → Result ColumnView VortexError → Type 0
  AnswersFunction f inputs n result =
      let Faults = IsCallFault (function_means m f) inputs n in
      Answers result (HasCallRows (function_type m f) (function_means m f) inputs n) Faults
