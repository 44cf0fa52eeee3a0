-- The result of Simplify for a node of an operator, from its operands.
use Rattle.std.proofs.Common.{◌≡◌, Bool, true, Option, Some, refl, sym, ap, ◌∙◌}
use Rattle.std.specs.Prelude.{Result}
use Rattle.std.specs.Option.{is_some}
use Rattle.vortex_errors.specs.declared.error.VortexError.{VortexError}
use Rattle.vortex_errors.specs.Answers.{AnswersUnlessMemory}
use Rattle.vortex_errors.proofs.Answering.{AnswersUnlessMemory-weaker}
use Rattle.vortex_types.specs.LogicalTypes.{LogicalType, is_nullable}
use Rattle.vortex_operators.specs.declared.operators.Operator.{Operator}
use Rattle.vortex_operators.specs.declared.operators.Operator.TheVariants.{Eq, NotEq, Gt, Gte, Lt}
use Rattle.vortex_operators.specs.declared.operators.Operator.TheVariants.{Lte, And, Or}
use Rattle.vortex_operators.specs.Operators.{is_boolean, compare_operator_of}
use Rattle.vortex_interface.specs.Meaning.{Meaning}
use Rattle.vortex_interface.specs.Trees.{Tree}
use Rattle.vortex_interface.specs.Eval.{tree_type}
use Rattle.vortex_interface.specs.ComparisonTrees.{operated}
use Rattle.vortex_interface.specs.Rules.{Rules, may_be_null, is_nullable_tree}
use Rattle.vortex_interface.specs.SimplifyRules.{simplify_comparison, simplify_operands, simplify}
use Rattle.vortex_rewriting.specs.Contexts.{InContext, IsMade}
use Rattle.vortex_rewriting.specs.Reduced.{IsSimplified}
use Rattle.vortex_rewriting.proofs.Made.{made_as}

module _ {V O : Type 0} (m : Meaning V O) where
  boolean : (r : Rules V O) (op : Operator) (x y : Tree V O) → is_boolean op ≡ true
      → simplify_operands m op (is_nullable_tree m (operated op x y)) x y
      ≡ simplify m r (operated op x y)
  boolean r And x y b = refl
  boolean r Or x y b = refl
  boolean r op x y b = cc

  comparison : (r : Rules V O) (op : Operator) (x y : Tree V O)
      → is_some (compare_operator_of op) ≡ true
      → simplify_comparison x y ≡ simplify m r (operated op x y)
  comparison r Eq x y b = refl
  comparison r NotEq x y b = refl
  comparison r Gt x y b = refl
  comparison r Gte x y b = refl
  comparison r Lt x y b = refl
  comparison r Lte x y b = refl
  comparison r op x y b = cc

  -- the result of Simplify for the node, from its operator
  module _ {N B : Type 0} (seen : N → InContext V O B) (s l : InContext V O B)
      (here : l.context ≡ s.context) {x y : Tree V O} {op : Operator}
      (is : s.tree ≡ operated op x y) (answer : Result (Option N) VortexError) where
    pub simplified_boolean : {k : LogicalType} {n : Bool} → is_boolean op ≡ true
        → tree_type m s.tree ≡ Some k → n ≡ is_nullable k
        → AnswersUnlessMemory answer (IsMade l seen (simplify_operands m op n x y))
        → AnswersUnlessMemory answer (IsSimplified m seen s)
    simplified_boolean {k} {n} b h null =
        let same : n ≡ is_nullable_tree m (operated op x y) =
        null ∙ sym (ap may_be_null (sym (ap (tree_type m) is) ∙ h)) in
        let made = simplify_operands m op n x y in
        AnswersUnlessMemory-weaker answer (IsMade l seen made) (IsSimplified m seen s)
        (λ a e r. made_as seen s l here made (simplify m r s.tree)
        (ap (λ q. simplify_operands m op q x y) same
        ∙ boolean r op x y b
        ∙ sym (ap (simplify m r) is)) a e)

    pub simplified_comparison : is_some (compare_operator_of op) ≡ true
        → AnswersUnlessMemory answer (IsMade l seen (simplify_comparison x y))
        → AnswersUnlessMemory answer (IsSimplified m seen s)
    simplified_comparison c =
        let made = simplify_comparison x y in
        AnswersUnlessMemory-weaker answer (IsMade l seen made) (IsSimplified m seen s)
        (λ a e r. made_as seen s l here made (simplify m r s.tree)
        (comparison r op x y c ∙ sym (ap (simplify m r) is)) a e)
