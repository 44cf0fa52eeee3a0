use Rattle.std.specs.Prelude.{is_some}
use Rattle.vortex_lowering.specs.Computing.{AreComputed}
use Rattle.std.proofs.Common.{◌≡◌, ◌∙◌, refl, ap, [], ◌∷◌}
use Rattle.std.specs.Prelude.{None}
use Rattle.std.proofs.lemmas.Result.{err_from_is_err_and}
use Rattle.vortex_errors.proofs.Answering.{UnlessMemory-weaker}
use Rattle.vortex_interface.specs.Shipped.{Binary}
use Rattle.vortex_interface.specs.Functions.{ours}
use Rattle.vortex_interface.specs.Trees.{trees_of}
use Rattle.vortex_interface.specs.Eval.{tree_type, tree_types, with_type}
use Rattle.vortex_functions.specs.Binding.{RefusesCall}
use Rattle.vortex_lowering.specs.Rows.{lowered, IsTyped}
use Rattle.vortex_lowering.specs.LoweredTrees.{arithmetic_operator, tree_at_scale, computed_tree}
use Rattle.vortex_lowering.proofs.TreeTypes.{others_none, arguments_none, bound_some, refused_none}
use Rattle.vortex_lowering.proofs.RowResults.{computed_made, result_none, result_typed, computes}
use Rattle.vortex_lowering.proofs.computing.computed.Goals as goal

pub returns-in_err-left : goal.returns-in_err-left
returns-in_err-left g c =
    let m = g.C.ScalarFnVTable.meaning in
    let o = c.args.operator in
    let x = lowered c.args.left.tree c.args.left.operand in
    let y = lowered c.args.right.tree c.args.right.operand in
    let kind = c.in_ok-operand.ensures in
    let scale = c.met_scale-scale.result in
    let l = tree_at_scale scale x in
    let r = tree_at_scale scale y in
    let made = computed_made o x y scale (arithmetic_operator o) l r c.met_scale-scale.ensures.value refl refl refl in
    let p = err_from_is_err_and c.from_residual-in_err-left.result c.from_residual-in_err-left.ensures.1 in
    rw (p.1, p.2) (UnlessMemory-weaker (λ e. tree_type m l ≡ None)
    (λ e. AreComputed o x.operand y.operand × (tree_type m (computed_tree o x y) ≡ None)
    × ¬ (IsTyped m x × IsTyped m y))
    (λ e h. let n = result_none m o x y c.in_ok-operand.operand kind.1 kind.0 _ made
    (arguments_none m (ours (Binary (arithmetic_operator o))) (trees_of (l ∷ r ∷ []))
    (ap (λ a. with_type a (tree_types m (trees_of (r ∷ [])))) h)) in ((ap is_some kind.0, kind.1), n.0, n.1)) c.in_err-left.field-0.0 c.in_err-left.ensures)

pub returns-in_err-right : goal.returns-in_err-right
returns-in_err-right g c =
    let m = g.C.ScalarFnVTable.meaning in
    let o = c.args.operator in
    let x = lowered c.args.left.tree c.args.left.operand in
    let y = lowered c.args.right.tree c.args.right.operand in
    let kind = c.in_ok-operand.ensures in
    let scale = c.met_scale-scale.result in
    let l = tree_at_scale scale x in
    let r = tree_at_scale scale y in
    let made = computed_made o x y scale (arithmetic_operator o) l r c.met_scale-scale.ensures.value refl refl refl in
    let p = err_from_is_err_and c.from_residual-in_err-right.result c.from_residual-in_err-right.ensures.1 in
    rw (p.1, p.2) (UnlessMemory-weaker (λ e. tree_type m r ≡ None)
    (λ e. AreComputed o x.operand y.operand × (tree_type m (computed_tree o x y) ≡ None)
    × ¬ (IsTyped m x × IsTyped m y))
    (λ e h. let n = result_none m o x y c.in_ok-operand.operand kind.1 kind.0 _ made
    (arguments_none m (ours (Binary (arithmetic_operator o))) (trees_of (l ∷ r ∷ []))
    (ap (λ a. with_type (tree_type m l) (with_type a (tree_types m (trees_of [])))) h ∙ others_none (tree_type m l))) in ((ap is_some kind.0, kind.1), n.0, n.1))
    c.in_err-right.field-0.0 c.in_err-right.ensures)

pub returns-in_err-tree : goal.returns-in_err-tree
returns-in_err-tree g c =
    let m = g.C.ScalarFnVTable.meaning in
    let o = c.args.operator in
    let x = lowered c.args.left.tree c.args.left.operand in
    let y = lowered c.args.right.tree c.args.right.operand in
    let kind = c.in_ok-operand.ensures in
    let l = c.in_ok-left.left in
    let r = c.in_ok-right.right in
    let f = ours (Binary c.arithmetic_operator.result) in
    let made = computed_made o x y c.met_scale-scale.result c.arithmetic_operator.result l r
    c.met_scale-scale.ensures.value c.arithmetic_operator.ensures c.in_ok-left.ensures c.in_ok-right.ensures in
    let p = err_from_is_err_and c.from_residual-in_err-tree.result c.from_residual-in_err-tree.ensures.1 in
    rw (p.1, p.2) (UnlessMemory-weaker (RefusesCall m f (l ∷ r ∷ []))
    (λ e. AreComputed o x.operand y.operand × (tree_type m (computed_tree o x y) ≡ None)
    × ¬ (IsTyped m x × IsTyped m y))
    (λ e h. (let n = result_none m o x y c.in_ok-operand.operand kind.1 kind.0 _ made (refused_none m f (l ∷ r ∷ []) e h) in ((ap is_some kind.0, kind.1), n.0, n.1)))
    c.in_err-tree.field-0.0 c.in_err-tree.ensures)

pub returns : goal.returns
returns g c =
    let m = g.C.ScalarFnVTable.meaning in
    let o = c.args.operator in
    let x = lowered c.args.left.tree c.args.left.operand in
    let y = lowered c.args.right.tree c.args.right.operand in
    let z = lowered c.in_ok-tree.tree c.in_ok-operand.operand in
    let kind = c.in_ok-operand.ensures in
    let l = c.in_ok-left.left in
    let r = c.in_ok-right.right in
    let bound = c.in_ok-tree.ensures in
    let is = bound.is ∙ computed_made o x y c.met_scale-scale.result c.arithmetic_operator.result l r
    c.met_scale-scale.ensures.value c.arithmetic_operator.ensures c.in_ok-left.ensures c.in_ok-right.ensures in
    record {
      kind = kind.0;
      shipped = kind.1;
      tree = is;
      takes = bound_some m (ours (Binary c.arithmetic_operator.result)) (l ∷ r ∷ []) z.tree bound;
      typed = λ s t. result_typed m o x y z kind.1 kind.0 s t is;
      rows = λ s t. computes m o x y z kind.1 kind.0 s t is;
    }
