-- Simplify makes trees of shipped functions lighter, whatever the rules of other functions.
use Rattle.std.proofs.Common.{◌≡◌, Bool, Option, Some, None, refl, ◌∙◌, subst, arith}
use Rattle.std.specs.Prelude.{◌&&◌, ◌||◌}
use Rattle.vortex_operators.specs.Kleene.{decides}
use Rattle.vortex_operators.specs.declared.operators.Operator.{Operator}
use Rattle.vortex_operators.specs.declared.operators.Operator.TheVariants.{Eq, NotEq, Gt, Gte, Lt}
use Rattle.vortex_operators.specs.declared.operators.Operator.TheVariants.{Lte, And, Or}
use Rattle.vortex_interface.specs.Meaning.{Meaning, Lawful}
use Rattle.vortex_interface.specs.Shipped.{Shipped, Binary}
use Rattle.vortex_interface.specs.Functions.{ours, custom}
use Rattle.vortex_interface.specs.Trees.{Tree, call, Trees, no_trees, tree}
use Rattle.vortex_interface.specs.ComparisonTrees.{operated}
use Rattle.vortex_interface.specs.Rules.{Rules, no_rules, constant_truth, is_nullable_tree}
use Rattle.vortex_interface.specs.Rules.{widened}
use Rattle.vortex_interface.specs.SimplifyRules.{is_null_literal, simplify_comparison, decided}
use Rattle.vortex_interface.specs.SimplifyRules.{left_of_nulls, undecided, simplify_operands}
use Rattle.vortex_interface.specs.SimplifyRules.{simplify_operator, simplify_shipped, simplify}
use Rattle.vortex_interface.specs.Weights.{OnlyShipped, AllShipped, Lightens}
use Rattle.vortex_interface.proofs.RuleAnswers.{first_there, answer_if, answer_unless}
use Rattle.vortex_interface.proofs.Validities.{no_rules_lawful}
use Rattle.vortex_interface.proofs.Simplifying.{simplify_sound}
use Rattle.vortex_interface.proofs.LighterParts.{IsLess, child_less, above_one, left_less, right_less}

module _ {V O : Type 0} (m : Meaning V O) where
  module _ (op : Operator) (x y : Tree V O) (s : OnlyShipped x) (z : OnlyShipped y) where
    -- lighter than the node
    abbrev Less : Tree V O → Type 0
    Less u = IsLess m (operated op x y) u

    comparison_less : (u : Tree V O) → simplify_comparison x y ≡ Some u → Less u
    comparison_less u e =
        let a = answer_if (is_null_literal x || is_null_literal y) _ u e in
        subst Less a.1 (tt, above_one m (ours (Binary op)) x (tree y no_trees))

    module _ (n : Bool) where
      decided_less : (o : Option Bool) (u : Tree V O) → decided op n o ≡ Some u → Less u
      decided_less None u e = cc
      decided_less (Some b) u e =
          let a = answer_if (decides op b) _ u e in
          subst Less a.1 (tt, above_one m (ours (Binary op)) x (tree y no_trees))

      undecided_less : (w : Tree V O) → Less (widened m n w) → (o : Option Bool) (u : Tree V O)
          → undecided m op n o w ≡ Some u → Less u
      undecided_less w less None u e = cc
      undecided_less w less (Some b) u e =
          let a = answer_unless (decides op b) _ u e in
          subst Less a.1 less

      nulls_less : (u : Tree V O) → left_of_nulls x y ≡ Some u → Less u
      nulls_less u e =
          let a = answer_if (is_null_literal x && is_null_literal y) x u e in
          subst Less a.1 (child_less m (ours (Binary op)) x (tree y no_trees) s)

      operands_less : (u : Tree V O) → simplify_operands m op n x y ≡ Some u → Less u
      operands_less u e =
          let left = left_less m op n x y s in
          let right = right_less m op n x y z in
          first_there _ _ u (Less u) e (decided_less (constant_truth x) u)
          (λ e. first_there _ _ u (Less u) e (decided_less (constant_truth y) u)
          (λ e. first_there _ _ u (Less u) e (undecided_less y right (constant_truth x) u)
          (λ e. first_there _ _ u (Less u) e (undecided_less x left (constant_truth y) u)
          (nulls_less u))))

  operator_less : (op : Operator) (x y u : Tree V O) → OnlyShipped x → OnlyShipped y
      → simplify_operator m op x y ≡ Some u → IsLess m (operated op x y) u
  operator_less And x y u s z e =
      operands_less And x y s z (is_nullable_tree m (operated And x y)) u e
  operator_less Or x y u s z e =
      operands_less Or x y s z (is_nullable_tree m (operated Or x y)) u e
  operator_less Eq x y u s z e = comparison_less Eq x y s z u e
  operator_less NotEq x y u s z e = comparison_less NotEq x y s z u e
  operator_less Gt x y u s z e = comparison_less Gt x y s z u e
  operator_less Gte x y u s z e = comparison_less Gte x y s z u e
  operator_less Lt x y u s z e = comparison_less Lt x y s z u e
  operator_less Lte x y u s z e = comparison_less Lte x y s z u e
  operator_less op x y u s z e = cc

  shipped_less : (f : Shipped) (ts : Trees V O) (u : Tree V O) → AllShipped ts
      → simplify_shipped m f ts ≡ Some u → IsLess m (call (ours f) ts) u
  shipped_less (Binary op) (tree x (tree y no_trees)) u s e = operator_less op x y u s.0 s.1.0 e
  shipped_less f ts u s e = cc

  module _ (r : Rules V O) where
    simplified_less : (t u : Tree V O) → OnlyShipped t → simplify m r t ≡ Some u → IsLess m t u
    simplified_less (call (ours f) ts) u s e = shipped_less f ts u s.1 e
    simplified_less (call (custom f o) ts) u s e = absurd s.0
    simplified_less t u s e = cc

    -- no rule of another function is used
    by_ours_alone : (t : Tree V O) → OnlyShipped t → simplify m no_rules t ≡ simplify m r t
    by_ours_alone (call (custom f o) ts) s = absurd s.0
    by_ours_alone t s = refl

    pub simplify_lightens : Lawful m → Lightens m (simplify m r)
    simplify_lightens lawful t u k h s e =
        let less = simplified_less t u s e in
        let none = no_rules_lawful m lawful in
        let same = by_ours_alone t s ∙ e in
        record {
          dtype = (simplify_sound m lawful no_rules none t u k h same).dtype;
          shipped = less.0;
          lighter = let weighs = less.1 in omega (arith, weighs);
        }
