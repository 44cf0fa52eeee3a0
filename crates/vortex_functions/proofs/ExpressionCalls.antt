-- A call over expressions that is bound.
use Rattle.std.proofs.Common.{List, subst}
use Rattle.std.specs.Prelude.{Result, Ok, Err}
use Rattle.std.proofs.lemmas.List.{map-id}
use Rattle.vortex_errors.specs.declared.error.VortexError.{VortexError}
use Rattle.vortex_errors.specs.Answers.{UnlessMemory}
use Rattle.vortex_interface.specs.Meaning.{Meaning}
use Rattle.vortex_interface.specs.Functions.{Function}
use Rattle.vortex_interface.specs.Trees.{Tree}
use Rattle.vortex_functions.specs.Binding.{IsCall, RefusesCall, AnswersBinding, AnswersTreeCall}

module _ {V O : Type 0} (m : Meaning V O) (f : Function V O) (ts : List (Tree V O)) where
  pub bound_as_call : (r : Result (Tree V O) VortexError)
      → AnswersTreeCall (λ t. t) (λ t. tt {0}) m f ts tt r → AnswersBinding m f ts r
  bound_as_call (Ok t) h = subst (λ xs. IsCall m f xs t) (map-id ts) h.0
  bound_as_call (Err e) h = subst (λ xs. UnlessMemory (RefusesCall m f xs) e) (map-id ts) h
