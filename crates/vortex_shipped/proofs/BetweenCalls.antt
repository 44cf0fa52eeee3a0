-- From the result of Between over its inputs to that of its call.
use Rattle.std.proofs.Common.{◌≡◌, ℕ, Bool, true, false, List, [], ◌∷◌, length, get_or, Some}
use Rattle.std.proofs.Common.{None, refl, ap, arith, cond, subst}
use Rattle.std.specs.Prelude.{IsSome, slice_get, ◌&&◌, Result}
use Rattle.vortex_errors.specs.declared.error.VortexError.{VortexError}
use Rattle.vortex_errors.specs.Answers.{AnswersUnlessMemory}
use Rattle.vortex_types.specs.LogicalTypes.{LogicalType}
use Rattle.vortex_types.specs.TypeEquality.{alike_types}
use Rattle.vortex_columns.specs.ColumnView.{ColumnView, row}
use Rattle.vortex_operators.specs.declared.between.BetweenOptions.{BetweenOptions}
use Rattle.vortex_operators.specs.Between.{between_type, between_value}
use Rattle.vortex_kernels.specs.Between.{HasBetweenRows}
use Rattle.vortex_interface.specs.Outcomes.{types_in}
use Rattle.vortex_interface.specs.Shipped.{Between}
use Rattle.vortex_interface.specs.Shipped.BetweenFunction.{bounded_type}
use Rattle.vortex_interface.specs.Answering.{AnswersShipped}
use Rattle.vortex_shipped.proofs.CallRows.{call_answered}
use Rattle.vortex_shipped.proofs.Inputs.{three_inputs}

-- a list of three items
pub three_items : {A : Type 0} (xs : List A) (a b d : A) → length xs ≡ 3 → a ≡ get_or xs 0 a
    → b ≡ get_or xs 1 b → d ≡ get_or xs 2 d → xs ≡ a ∷ b ∷ d ∷ []
three_items [] a b d h p q r = cc
three_items (x ∷ []) a b d h p q r = cc
three_items (x ∷ y ∷ []) a b d h p q r = cc
three_items (x ∷ y ∷ z ∷ []) a b d h p q r = cc
three_items (x ∷ y ∷ z ∷ w ∷ xs) a b d h p q r = absurd (omega (arith, h))

pub bounded_is : (t lower upper : LogicalType) → alike_types t lower ≡ true
    → alike_types t upper ≡ true
    → bounded_type (t ∷ lower ∷ upper ∷ []) ≡ Some (between_type t lower upper)
bounded_is t lower upper p q = λ i. cond (p i && q i) (Some (between_type t lower upper)) None

-- the three inputs of a call that accepts them
pub record ThreeAlike (cs : List ColumnView) (x lower upper : ColumnView) : Type 0 where
  pub all : cs ≡ x ∷ lower ∷ upper ∷ []
  pub alike : (alike_types x.dtype lower.dtype && alike_types x.dtype upper.dtype) ≡ true

three_of : (a b d : ColumnView) → IsSome (bounded_type (types_in (a ∷ b ∷ d ∷ [])))
    → (alike_types a.dtype b.dtype && alike_types a.dtype d.dtype) ≡ true
three_of a b d h = by (alike_types a.dtype b.dtype && alike_types a.dtype d.dtype) h
  where
    by : (p : Bool) → IsSome (cond p (Some (between_type a.dtype b.dtype d.dtype)) None) → p ≡ true
    by true k = refl
    by false k = cc

pub three_alike : (cs : List ColumnView) (x lower upper : ColumnView) → length cs ≡ 3
    → IsSome (bounded_type (types_in cs))
    → slice_get cs 0 ≡ Some x → slice_get cs 1 ≡ Some lower → slice_get cs 2 ≡ Some upper
    → ThreeAlike cs x lower upper
three_alike cs x lower upper n h p q r =
    let all = three_inputs cs x lower upper n p q r in
    let accepted = subst (λ xs. IsSome (bounded_type (types_in xs))) all h in
    record { all = all; alike = three_of x lower upper accepted }

pub between_call : (options : BetweenOptions) (cs : List ColumnView)
    (x lower upper : ColumnView) (n : ℕ)
    → ThreeAlike cs x lower upper → (answer : Result ColumnView VortexError) → length x.rows ≡ n
    → AnswersUnlessMemory answer (HasBetweenRows options x lower upper)
    → AnswersShipped (Between options) cs n answer
between_call options cs x lower upper n three answer e h =
    let t = between_type x.dtype lower.dtype upper.dtype in
    call_answered (Between options) cs (x ∷ lower ∷ upper ∷ []) three.all n (length x.rows) e t
    (λ i. between_value options (row lower.rows i) (row x.rows i) (row upper.rows i))
    (ap (λ b. cond b (Some t) None) three.alike) (λ i. refl) answer h
