-- Numbers as truth values are trees with a type, or are refused.
use Rattle.std.proofs.Common.{Option, Some, None}
use Rattle.vortex_types.specs.LogicalTypes.{LogicalType, integer_type}
use Rattle.vortex_interface.specs.Eval.{tree_type}
use Rattle.vortex_standard.specs.declared.standard.Standard.TheVariants as standard
use Rattle.vortex_syntax.specs.declared.step.WrittenOperator.{WrittenOperator}
use Rattle.vortex_syntax.specs.declared.step.WrittenOperator.TheVariants as written
use Rattle.vortex_expressions.specs.Literals.{Literal}
use Rattle.vortex_expressions.specs.Outcomes.{and_then}
use Rattle.vortex_expressions.specs.Items.{Item, literal, bound, kinded, fraction, interval, Tree}
use Rattle.vortex_expressions.specs.Items.{meaning, settled, truth_type}
use Rattle.vortex_expressions.specs.Truths.{typed_truth, tree_truth, is_number_literal, as_truth}
use Rattle.vortex_expressions.specs.Truths.{truth_settled}
use Rattle.vortex_expressions.specs.Calls.{as_part}
use Rattle.vortex_expressions.proofs.SureCalls.{Sure, sure_then, sure_if, IsTyped, IsItem}
use Rattle.vortex_expressions.proofs.SureCalls.{sure_settled}
use Rattle.vortex_expressions.proofs.SureTexts.{sure_made_by}

sure_typed_truth : (o : Option LogicalType) (t : Tree) → IsTyped t → Sure IsItem (typed_truth o t)
sure_typed_truth (Some (integer_type p n)) t h = sure_made_by standard.IntToTruth t
sure_typed_truth o t h = h

sure_number_truth : (l : Literal) → IsItem (literal l)
    → Sure IsItem (and_then (settled None (literal l)) tree_truth)
sure_number_truth l h =
    sure_then IsTyped IsItem (settled None (literal l)) tree_truth (sure_settled None (literal l) h)
    (λ t j. sure_typed_truth (tree_type meaning t) t j)

pub sure_as_truth : (i : Item) → IsItem i → Sure IsItem (as_truth i)
sure_as_truth (literal l) h =
    sure_if IsItem (is_number_literal l) _ _ (sure_number_truth l h) h
sure_as_truth (bound t) h = sure_typed_truth (tree_type meaning t) t h
sure_as_truth (kinded k t) h = h
sure_as_truth (fraction w) h = h
sure_as_truth (interval z) h = h

pub sure_truth_settled : (i : Item) → IsItem i → Sure IsTyped (truth_settled i)
sure_truth_settled i h =
    sure_then IsItem IsTyped (as_truth i) (settled truth_type) (sure_as_truth i h)
    (λ j k. sure_settled truth_type j k)

pub sure_as_part : (o : WrittenOperator) (i : Item) → IsItem i → Sure IsItem (as_part o i)
sure_as_part written.Or i h = sure_as_truth i h
sure_as_part written.And i h = sure_as_truth i h
sure_as_part o i h = h
