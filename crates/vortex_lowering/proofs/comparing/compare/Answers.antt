use Rattle.vortex_lowering.specs.Comparing.{AreCompared}
use Rattle.std.proofs.Common.{◌≡◌, ◌∙◌, refl, ap, [], ◌∷◌}
use Rattle.std.specs.Prelude.{None}
use Rattle.std.proofs.lemmas.Result.{err_from_is_err_and}
use Rattle.vortex_errors.proofs.Answering.{UnlessMemory-weaker}
use Rattle.vortex_operators.specs.Operators.{operator_of}
use Rattle.vortex_interface.specs.Shipped.{Binary}
use Rattle.vortex_interface.specs.Functions.{ours}
use Rattle.vortex_interface.specs.Trees.{trees_of}
use Rattle.vortex_interface.specs.Eval.{tree_type, tree_types, with_type}
use Rattle.vortex_functions.specs.Binding.{RefusesCall}
use Rattle.vortex_lowering.specs.Rows.{lowered, IsTyped}
use Rattle.vortex_lowering.specs.LoweredTrees.{tree_at_scale, compared_tree}
use Rattle.vortex_lowering.proofs.TreeTypes.{others_none, arguments_none, bound_some, refused_none}
use Rattle.vortex_lowering.proofs.RowComparisons.{compared_made, compares, comparison_none}
use Rattle.vortex_lowering.proofs.comparing.compare.Goals as goal

pub returns-in_err-left : goal.returns-in_err-left
returns-in_err-left g c =
    let m = g.C.ScalarFnVTable.meaning in
    let op = c.args.operator in
    let x = lowered c.args.left.tree c.args.left.operand in
    let y = lowered c.args.right.tree c.args.right.operand in
    let scale = c.common_scale-scale.result in
    let l = tree_at_scale scale x in
    let r = tree_at_scale scale y in
    let made = compared_made op x y scale (operator_of op) l r c.common_scale-scale.ensures.value refl refl refl in
    let p = err_from_is_err_and c.from_residual-in_err-left.result c.from_residual-in_err-left.ensures.1 in
    rw (p.1, p.2) (UnlessMemory-weaker (λ e. tree_type m l ≡ None)
    (λ e. AreCompared x.operand y.operand × (tree_type m (compared_tree op x y) ≡ None)
    × ¬ (IsTyped m x × IsTyped m y))
    (λ e h. let n = comparison_none m op x y c.in_ok-check_pair.ensures.1 _ made
    (arguments_none m (ours (Binary (operator_of op))) (trees_of (l ∷ r ∷ []))
    (ap (λ a. with_type a (tree_types m (trees_of (r ∷ [])))) h)) in (c.in_ok-check_pair.ensures, n.0, n.1)) c.in_err-left.field-0.0 c.in_err-left.ensures)

pub returns-in_err-right : goal.returns-in_err-right
returns-in_err-right g c =
    let m = g.C.ScalarFnVTable.meaning in
    let op = c.args.operator in
    let x = lowered c.args.left.tree c.args.left.operand in
    let y = lowered c.args.right.tree c.args.right.operand in
    let scale = c.common_scale-scale.result in
    let l = tree_at_scale scale x in
    let r = tree_at_scale scale y in
    let made = compared_made op x y scale (operator_of op) l r c.common_scale-scale.ensures.value refl refl refl in
    let p = err_from_is_err_and c.from_residual-in_err-right.result c.from_residual-in_err-right.ensures.1 in
    rw (p.1, p.2) (UnlessMemory-weaker (λ e. tree_type m r ≡ None)
    (λ e. AreCompared x.operand y.operand × (tree_type m (compared_tree op x y) ≡ None)
    × ¬ (IsTyped m x × IsTyped m y))
    (λ e h. let n = comparison_none m op x y c.in_ok-check_pair.ensures.1 _ made
    (arguments_none m (ours (Binary (operator_of op))) (trees_of (l ∷ r ∷ []))
    (ap (λ a. with_type (tree_type m l) (with_type a (tree_types m (trees_of [])))) h ∙ others_none (tree_type m l))) in (c.in_ok-check_pair.ensures, n.0, n.1))
    c.in_err-right.field-0.0 c.in_err-right.ensures)

pub returns-in_err-operated : goal.returns-in_err-operated
returns-in_err-operated g c =
    let m = g.C.ScalarFnVTable.meaning in
    let op = c.args.operator in
    let x = lowered c.args.left.tree c.args.left.operand in
    let y = lowered c.args.right.tree c.args.right.operand in
    let l = c.in_ok-left.left in
    let r = c.in_ok-right.right in
    let f = ours (Binary c.from.result) in
    let made = compared_made op x y c.common_scale-scale.result c.from.result l r
    c.common_scale-scale.ensures.value c.from.ensures.0 c.in_ok-left.ensures c.in_ok-right.ensures in
    let p = err_from_is_err_and c.from_residual-in_err-operated.result c.from_residual-in_err-operated.ensures.1 in
    rw (p.1, p.2) (UnlessMemory-weaker (RefusesCall m f (l ∷ r ∷ []))
    (λ e. AreCompared x.operand y.operand × (tree_type m (compared_tree op x y) ≡ None)
    × ¬ (IsTyped m x × IsTyped m y))
    (λ e h. (let n = comparison_none m op x y c.in_ok-check_pair.ensures.1 _ made (refused_none m f (l ∷ r ∷ []) e h) in (c.in_ok-check_pair.ensures, n.0, n.1)))
    c.in_err-operated.field-0.0 c.in_err-operated.ensures)

pub returns : goal.returns
returns g c =
    let m = g.C.ScalarFnVTable.meaning in
    let op = c.args.operator in
    let x = lowered c.args.left.tree c.args.left.operand in
    let y = lowered c.args.right.tree c.args.right.operand in
    let t = c.in_ok-operated.field-0 in
    let l = c.in_ok-left.left in
    let r = c.in_ok-right.right in
    let bound = c.in_ok-operated.ensures in
    let is = bound.is ∙ compared_made op x y c.common_scale-scale.result c.from.result l r
    c.common_scale-scale.ensures.value c.from.ensures.0 c.in_ok-left.ensures c.in_ok-right.ensures in
    let typed = bound_some m (ours (Binary c.from.result)) (l ∷ r ∷ []) t bound in
    record {
      meet = c.in_ok-check_pair.ensures;
      tree = is;
      takes = typed;
      rows = compares m op x y c.in_ok-check_pair.ensures.1 c.stored_values_are_ordered.ensures c.rescaling_orders.ensures t is typed;
    }
