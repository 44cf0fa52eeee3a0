-- The result of making a call over arrays.
use Rattle.std.specs.Prelude.{◌≡◌, ℕ, List, [], ◌∷◌, Some, None, true, false, length, Result}
use Rattle.vortex_errors.specs.declared.error.VortexError.{VortexError}
use Rattle.vortex_errors.specs.declared.error.VortexError.TheVariants.{ArityMismatch}
use Rattle.vortex_errors.specs.declared.error.VortexError.TheVariants.{LengthMismatch}
use Rattle.vortex_errors.specs.Answers.{Answers}
use Rattle.vortex_types.specs.LogicalTypes.{LogicalType}
use Rattle.vortex_interface.specs.Meaning.{Meaning, fits}
use Rattle.vortex_interface.specs.Functions.{Function, function_arity, function_type, IsMismatchOf}
use Rattle.vortex_interface.specs.Trees.{trees_of}
use Rattle.vortex_interface.specs.Eval.{tree_types}
use Rattle.vortex_functions.specs.Binding.{IsCall}
use Rattle.vortex_functions.specs.Arrays.{Array, tree_in, rows_in, trees_in, other_rows}

-- the call of the function on the arrays, all of that many rows
pub record IsArrayCall {V O : Type 0} (m : Meaning V O) (f : Function V O)
    (xs : List (Array V O)) (n : ℕ) (a : Array V O) : Type 0 where
  pub call : IsCall m f (trees_in xs) (tree_in a)
  pub rows : rows_in a ≡ n
  pub even : other_rows n xs ≡ None

-- first an array of another row count, then types that are not accepted
pub data RefusesOperands {V O : Type 0} (m : Meaning V O) (f : Function V O)
    (xs : List (Array V O)) (n : ℕ) (e : VortexError) : Type 0 where
  lengths : (l : ℕ) → other_rows n xs ≡ Some l → e ≡ LengthMismatch n l
      → RefusesOperands m f xs n e
  types : (ks : List LogicalType) → other_rows n xs ≡ None
      → tree_types m (trees_of (trees_in xs)) ≡ Some ks → function_type m f ks ≡ None
      → IsMismatchOf f ks e → RefusesOperands m f xs n e

-- before them a count that does not fit
pub data RefusesArrayCall {V O : Type 0} (m : Meaning V O) (f : Function V O)
    (xs : List (Array V O)) (n : ℕ) (e : VortexError) : Type 0 where
  count : fits (function_arity m f) (length xs) ≡ false
      → e ≡ ArityMismatch (function_arity m f) (length xs) → RefusesArrayCall m f xs n e
  operands : fits (function_arity m f) (length xs) ≡ true → RefusesOperands m f xs n e
      → RefusesArrayCall m f xs n e

module _ {V O : Type 0} (m : Meaning V O) (f : Function V O) where
  -- a call of that many rows
  abbrev pub AnswersCallOfRows : List (Array V O) → ℕ → Result (Array V O) VortexError → Type 0
  AnswersCallOfRows xs n result =
      Answers result (IsArrayCall m f xs n) (RefusesArrayCall m f xs n)

  -- a call of as many rows as the first array; without one, the error is for the count
  abbrev pub AnswersCall : List (Array V O) → Result (Array V O) VortexError → Type 0
  AnswersCall [] result =
      Answers result (λ a. ⊥) (λ e. e ≡ ArityMismatch (function_arity m f) 0)
  AnswersCall (a ∷ xs) result = AnswersCallOfRows (a ∷ xs) (rows_in a) result

  -- a call of that many rows, on as many arrays as the function takes
  abbrev pub AnswersOperands : List (Array V O) → ℕ → Result (Array V O) VortexError → Type 0
  AnswersOperands xs n result =
      Answers result (IsArrayCall m f xs n) (RefusesOperands m f xs n)
