-- The operators' table: texts, inverses, swaps.
use Rattle.std.specs.Prelude.{◌≡◌, ℕ, List, [], ◌∷◌, Bool, true, false, Option, Some, None}
use Rattle.std.specs.Prelude.{find}
use Rattle.std.specs.Str.{bytes_eq}
use Rattle.vortex_errors.specs.declared.error.VortexError.{VortexError}
use Rattle.vortex_errors.specs.declared.error.VortexError.TheVariants.{NotBooleanOperator}
use Rattle.vortex_errors.specs.declared.error.VortexError.TheVariants.{NotCompareOperator}
use Rattle.vortex_errors.specs.OperatorTexts.{operator_text}
use Rattle.vortex_errors.specs.declared.operator_text.OperatorText.{OperatorText}
use Rattle.vortex_errors.specs.declared.operator_text.OperatorText.TheVariants as text
use Rattle.vortex_operators.specs.declared.operators.Operator.{Operator}
use Rattle.vortex_operators.specs.declared.operators.Operator.TheVariants.{Eq, NotEq, Gt, Gte, Lt}
use Rattle.vortex_operators.specs.declared.operators.Operator.TheVariants.{Lte, And, Or, Add, Sub}
use Rattle.vortex_operators.specs.declared.operators.Operator.TheVariants.{Mul, Div}
use Rattle.vortex_operators.specs.declared.operators.CompareOperator.{CompareOperator}
use Rattle.vortex_operators.specs.declared.operators.CompareOperator.TheVariants as compare

-- the operator by its text, as errors carry it
abbrev pub as_text : Operator → OperatorText
as_text Eq = text.Eq
as_text NotEq = text.NotEq
as_text Gt = text.Gt
as_text Gte = text.Gte
as_text Lt = text.Lt
as_text Lte = text.Lte
as_text And = text.And
as_text Or = text.Or
as_text Add = text.Add
as_text Sub = text.Sub
as_text Mul = text.Mul
as_text Div = text.Div

-- the operator as SQL writes it
abbrev pub text_of : Operator → List ℕ
text_of operator = operator_text (as_text operator)

abbrev pub all_operators : List Operator
all_operators =
    Eq ∷ NotEq ∷ Gt ∷ Gte ∷ Lt ∷ Lte ∷ And ∷ Or ∷ Add ∷ Sub ∷ Mul ∷ Div ∷ []

-- the operator with a text
abbrev pub operator_named : List ℕ → Option Operator
operator_named text = find (λ operator. bytes_eq (text_of operator) text) all_operators

-- a comparison as an operator
abbrev pub operator_of : CompareOperator → Operator
operator_of compare.Eq = Eq
operator_of compare.NotEq = NotEq
operator_of compare.Gt = Gt
operator_of compare.Gte = Gte
operator_of compare.Lt = Lt
operator_of compare.Lte = Lte

abbrev pub compare_operator_of : Operator → Option CompareOperator
compare_operator_of Eq = Some compare.Eq
compare_operator_of NotEq = Some compare.NotEq
compare_operator_of Gt = Some compare.Gt
compare_operator_of Gte = Some compare.Gte
compare_operator_of Lt = Some compare.Lt
compare_operator_of Lte = Some compare.Lte
compare_operator_of o = None

-- the comparison that holds where this one does not
abbrev pub compare_inverse : CompareOperator → CompareOperator
compare_inverse compare.Eq = compare.NotEq
compare_inverse compare.NotEq = compare.Eq
compare_inverse compare.Gt = compare.Lte
compare_inverse compare.Gte = compare.Lt
compare_inverse compare.Lt = compare.Gte
compare_inverse compare.Lte = compare.Gt

-- the comparison with its operands swapped
abbrev pub compare_swap : CompareOperator → CompareOperator
compare_swap compare.Eq = compare.Eq
compare_swap compare.NotEq = compare.NotEq
compare_swap compare.Gt = compare.Lt
compare_swap compare.Gte = compare.Lte
compare_swap compare.Lt = compare.Gt
compare_swap compare.Lte = compare.Gte

abbrev pub inverse_of : Operator → Option Operator
inverse_of Eq = Some NotEq
inverse_of NotEq = Some Eq
inverse_of Gt = Some Lte
inverse_of Gte = Some Lt
inverse_of Lt = Some Gte
inverse_of Lte = Some Gt
inverse_of o = None

-- De Morgan's dual
abbrev pub logical_inverse_of : Operator → Option Operator
logical_inverse_of And = Some Or
logical_inverse_of Or = Some And
logical_inverse_of o = None

abbrev pub swap_of : Operator → Option Operator
swap_of Eq = Some Eq
swap_of NotEq = Some NotEq
swap_of Gt = Some Lt
swap_of Gte = Some Lte
swap_of Lt = Some Gt
swap_of Lte = Some Gte
swap_of And = Some And
swap_of Or = Some Or
swap_of Add = Some Add
swap_of Sub = None
swap_of Mul = Some Mul
swap_of Div = None

abbrev pub is_arithmetic : Operator → Bool
is_arithmetic Add = true
is_arithmetic Sub = true
is_arithmetic Mul = true
is_arithmetic Div = true
is_arithmetic o = false

abbrev pub is_boolean : Operator → Bool
is_boolean And = true
is_boolean Or = true
is_boolean o = false

-- the errors for an operator that is neither And nor Or, and for one that is no comparison, by its
-- text
abbrev pub IsNotBoolean : Operator → VortexError → Type 0
IsNotBoolean o (NotBooleanOperator s) = operator_text s ≡ text_of o
IsNotBoolean o e = ⊥

abbrev pub IsNotCompare : Operator → VortexError → Type 0
IsNotCompare o (NotCompareOperator s) = operator_text s ≡ text_of o
IsNotCompare o e = ⊥
