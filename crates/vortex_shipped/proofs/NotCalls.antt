-- From Not's result over its input to that of its call.
use Rattle.std.proofs.Common.{◌≡◌, ℕ, true, List, [], ◌∷◌, length, Some, refl, subst}
use Rattle.std.specs.Prelude.{IsSome, slice_get, Result}
use Rattle.vortex_errors.specs.declared.error.VortexError.{VortexError}
use Rattle.vortex_types.specs.LogicalTypes.{LogicalType, bool_type, is_bool_type}
use Rattle.vortex_errors.specs.Answers.{AnswersUnlessMemory}
use Rattle.vortex_columns.specs.ColumnView.{ColumnView, row}
use Rattle.vortex_operators.specs.OperatorValues.{not_value}
use Rattle.vortex_kernels.specs.Boolean.{HasNotRows}
use Rattle.vortex_interface.specs.Outcomes.{types_in}
use Rattle.vortex_interface.specs.Shipped.{Not}
use Rattle.vortex_interface.specs.Shipped.NotFunction.{not_type}
use Rattle.vortex_interface.specs.Answering.{AnswersShipped}
use Rattle.vortex_shipped.proofs.CallRows.{call_answered}
use Rattle.vortex_shipped.proofs.Inputs.{one_input}

-- the one input of Not
pub record OneBool (cs : List ColumnView) (c : ColumnView) : Type 0 where
  pub only : cs ≡ c ∷ []
  pub bool : is_bool_type c.dtype ≡ true

one_of : (a : LogicalType) → IsSome (not_type (a ∷ [])) → is_bool_type a ≡ true
one_of (bool_type n) h = refl
one_of a h = cc

pub one_bool : (cs : List ColumnView) (c : ColumnView) → length cs ≡ 1
    → IsSome (not_type (types_in cs)) → slice_get cs 0 ≡ Some c → OneBool cs c
one_bool cs c n h p =
    let only = one_input cs c n p in
    record { only = only; bool = one_of c.dtype (subst (λ xs. IsSome (not_type (types_in xs))) only h) }

pub not_type_is : (t : LogicalType) → is_bool_type t ≡ true → not_type (t ∷ []) ≡ Some t
not_type_is (bool_type n) h = refl
not_type_is t h = cc

pub not_call : (cs : List ColumnView) (c : ColumnView) (n : ℕ)
    (answer : Result ColumnView VortexError)
    → OneBool cs c → length c.rows ≡ n
    → AnswersUnlessMemory answer (HasNotRows c) → AnswersShipped Not cs n answer
not_call cs c n answer one e h =
    call_answered Not cs (c ∷ []) one.only n (length c.rows) e c.dtype
    (λ i. not_value (row c.rows i)) (not_type_is c.dtype one.bool) (λ i. refl) answer h
