-- From LIKE's result over its two inputs to that of its call.
use Rattle.std.proofs.Common.{◌≡◌, ℕ, true, List, [], ◌∷◌, length, Some, refl, subst}
use Rattle.std.specs.Prelude.{IsSome, slice_get, ◌||◌, Result}
use Rattle.vortex_errors.specs.declared.error.VortexError.{VortexError}
use Rattle.vortex_errors.specs.Answers.{AnswersUnlessMemory}
use Rattle.vortex_errors.proofs.Answering.{Answers-weaker}
use Rattle.vortex_types.specs.LogicalTypes.{LogicalType, bool_type, text_type, is_nullable}
use Rattle.vortex_types.specs.LogicalTypes.{is_text_type}
use Rattle.vortex_columns.specs.ColumnView.{ColumnView, row}
use Rattle.vortex_like.specs.declared.options.LikeOptions.{LikeOptions}
use Rattle.vortex_like.specs.Patterns.{like_value}
use Rattle.vortex_like.specs.Rows.{HasLikeRows}
use Rattle.vortex_kernels.specs.Rows.{HasRows}
use Rattle.vortex_interface.specs.Outcomes.{types_in}
use Rattle.vortex_interface.specs.Shipped.{Like}
use Rattle.vortex_interface.specs.Shipped.LikeFunction.{like_type}
use Rattle.vortex_interface.specs.Answering.{AnswersShipped}
use Rattle.vortex_shipped.proofs.CallRows.{call_answered}
use Rattle.vortex_shipped.proofs.Inputs.{two_inputs}

-- the two inputs of LIKE
pub record TwoTexts (cs : List ColumnView) (l r : ColumnView) : Type 0 where
  pub both : cs ≡ l ∷ r ∷ []
  pub input : is_text_type l.dtype ≡ true
  pub pattern : is_text_type r.dtype ≡ true

both_of : (a b : LogicalType) → IsSome (like_type (a ∷ b ∷ []))
    → (is_text_type a ≡ true) × (is_text_type b ≡ true)
both_of (text_type n) (text_type m) h = (refl, refl)
both_of a b h = cc

pub two_texts : (cs : List ColumnView) (l r : ColumnView) → length cs ≡ 2
    → IsSome (like_type (types_in cs)) → slice_get cs 0 ≡ Some l → slice_get cs 1 ≡ Some r
    → TwoTexts cs l r
two_texts cs l r n h p q =
    let both = two_inputs cs l r n p q in
    let texts = both_of l.dtype r.dtype (subst (λ xs. IsSome (like_type (types_in xs))) both h) in
    record { both = both; input = texts.0; pattern = texts.1 }

like_type_is : (a b : LogicalType) → is_text_type a ≡ true → is_text_type b ≡ true
    → like_type (a ∷ b ∷ []) ≡ Some (bool_type (is_nullable a || is_nullable b))
like_type_is (text_type n) (text_type m) h k = refl
like_type_is a b h k = cc

-- LIKE of a call's inputs is the call's result
pub like_call : (options : LikeOptions) (cs : List ColumnView) (l r : ColumnView) (n : ℕ)
    → TwoTexts cs l r → (answer : Result ColumnView VortexError) → length l.rows ≡ n
    → AnswersUnlessMemory answer (HasLikeRows options l r)
    → AnswersShipped (Like options) cs n answer
like_call options cs l r n two answer e h =
    let t = bool_type (is_nullable l.dtype || is_nullable r.dtype) in
    let value = λ (i : ℕ). like_value options (row l.rows i) (row r.rows i) in
    call_answered (Like options) cs (l ∷ r ∷ []) two.both n (length l.rows) e t value
    (like_type_is l.dtype r.dtype two.input two.pattern) (λ i. refl) answer
    (Answers-weaker answer (HasLikeRows options l r) (HasRows t (length l.rows) value) (λ f. ⊥)
    (λ f. ⊥) (λ c p. record { dtype = p.dtype; count = p.count; each = p.each }) (λ f p. absurd p) h)
