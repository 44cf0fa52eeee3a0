-- From the result of a null test over its input to that of its call.
use Rattle.std.proofs.Common.{◌≡◌, ℕ, Bool, false, List, [], ◌∷◌, length, map, Option, Some, None}
use Rattle.std.proofs.Common.{Ok, Err, refl, sym, subst}
use Rattle.std.specs.Prelude.{slice_get, Result}
use Rattle.vortex_errors.specs.declared.error.VortexError.{VortexError}
use Rattle.vortex_errors.specs.declared.error.VortexError.TheVariants.{BadOptions}
use Rattle.vortex_errors.specs.Answers.{UnlessMemory, Answers, AnswersUnlessMemory}
use Rattle.vortex_types.specs.declared.dtype.DType.{DType}
use Rattle.vortex_types.specs.TypeOf.{type_of}
use Rattle.vortex_types.specs.LogicalTypes.{bool_type}
use Rattle.vortex_types.specs.Values.{truth}
use Rattle.vortex_columns.specs.ColumnView.{ColumnView, row}
use Rattle.vortex_kernels.specs.NullTests.{HasTests}
use Rattle.vortex_interface.specs.Functions.{IsTypeMismatch}
use Rattle.vortex_interface.specs.Shipped.{NullTest, IsNull}
use Rattle.vortex_interface.specs.Shipped.NullTestFunctions.{null_test_type, null_test_value}
use Rattle.vortex_interface.specs.Answering.{AnswersShipped, AnswersShippedType}
use Rattle.vortex_interface.specs.OptionBytes.{ReadsOptions, MayReadOptions}
use Rattle.vortex_shipped.proofs.CallRows.{call_answered}
use Rattle.vortex_shipped.proofs.Inputs.{one_input}

-- for either null test
pub null_test_call : (negated : Bool) (cs : List ColumnView) (c : ColumnView) (n : ℕ)
    (answer : Result ColumnView VortexError)
    → length cs ≡ 1 → slice_get cs 0 ≡ Some c → length c.rows ≡ n
    → AnswersUnlessMemory answer (HasTests (null_test_value negated) c)
    → AnswersShipped (NullTest negated) cs n answer
null_test_call negated cs c n answer one input e h =
    call_answered (NullTest negated) cs (c ∷ []) (one_input cs c one input) n (length c.rows)
    e (bool_type false) (λ i. truth (null_test_value negated (row c.rows i))) refl (λ i. refl)
    answer h

-- an error exactly where nothing is read, and accepting all types, are as in the interface
pub may_read : {O : Type 0} (found : Option O) (r : Result O VortexError) → ReadsOptions found r
    → MayReadOptions found r
may_read found (Ok o) h = h
may_read found (Err e) h = subst (UnlessMemory (λ f. f ≡ BadOptions)) (sym h.1) refl

pub no_types_refused : (types : List DType) (r : Result DType VortexError)
    → AnswersShippedType IsNull types r
    → let ts = map type_of types in
    Answers r (λ t. null_test_type ts ≡ Some (type_of t))
    (λ e. (null_test_type ts ≡ None) × IsTypeMismatch e)
no_types_refused types (Ok t) h = h
no_types_refused types (Err e) h = absurd h.1
