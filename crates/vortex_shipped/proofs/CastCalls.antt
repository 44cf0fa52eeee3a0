-- From Cast's result over its input to that of its call.
use Rattle.std.proofs.Common.{◌≡◌, ℕ, true, List, [], ◌∷◌, length, Some, refl}
use Rattle.std.specs.Prelude.{IsSome, slice_get, Result}
use Rattle.vortex_errors.specs.declared.error.VortexError.{VortexError}
use Rattle.vortex_errors.specs.Answers.{AnswersUnlessMemory}
use Rattle.vortex_types.specs.LogicalTypes.{LogicalType, bool_type, is_bool_type}
use Rattle.vortex_columns.specs.ColumnView.{ColumnView, row}
use Rattle.vortex_kernels.specs.Cast.{HasCastRows}
use Rattle.vortex_interface.specs.Outcomes.{types_in}
use Rattle.vortex_interface.specs.Shipped.{Cast}
use Rattle.vortex_interface.specs.Shipped.CastFunction.{cast_type}
use Rattle.vortex_interface.specs.Shipped.NotFunction.{not_type}
use Rattle.vortex_interface.specs.Answering.{AnswersShipped}
use Rattle.vortex_shipped.proofs.CallRows.{call_answered}
use Rattle.vortex_shipped.proofs.NotCalls.{OneBool, one_bool}

-- Cast takes the same types as Not
taken_by_not : (ts : List LogicalType) → IsSome (cast_type ts) → IsSome (not_type ts)
taken_by_not (bool_type n ∷ []) h = refl
taken_by_not ts h = cc

pub one_cast : (cs : List ColumnView) (c : ColumnView) → length cs ≡ 1
    → IsSome (cast_type (types_in cs)) → slice_get cs 0 ≡ Some c → OneBool cs c
one_cast cs c n h p = one_bool cs c n (taken_by_not (types_in cs) h) p

cast_type_is : (t : LogicalType) → is_bool_type t ≡ true
    → cast_type (t ∷ []) ≡ Some (bool_type true)
cast_type_is (bool_type n) h = refl
cast_type_is t h = cc

pub cast_call : (cs : List ColumnView) (c : ColumnView) (n : ℕ)
    (answer : Result ColumnView VortexError)
    → OneBool cs c → length c.rows ≡ n
    → AnswersUnlessMemory answer (HasCastRows c) → AnswersShipped Cast cs n answer
cast_call cs c n answer one e h =
    call_answered Cast cs (c ∷ []) one.only n (length c.rows) e (bool_type true)
    (λ i. row c.rows i) (cast_type_is c.dtype one.bool) (λ i. refl) answer h
