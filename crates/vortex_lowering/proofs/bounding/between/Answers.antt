use Rattle.vortex_lowering.specs.Comparing.{AreCompared}
use Rattle.std.proofs.Common.{◌≡◌, ◌∙◌, refl, ap, [], ◌∷◌}
use Rattle.std.specs.Prelude.{None}
use Rattle.std.proofs.lemmas.Result.{err_from_is_err_and}
use Rattle.vortex_errors.proofs.Answering.{UnlessMemory-weaker}
use Rattle.vortex_interface.specs.Shipped.{Between}
use Rattle.vortex_interface.specs.Functions.{ours}
use Rattle.vortex_interface.specs.Trees.{trees_of}
use Rattle.vortex_interface.specs.Eval.{tree_type, tree_types, with_type}
use Rattle.vortex_functions.specs.Binding.{RefusesCall}
use Rattle.vortex_lowering.specs.Rows.{lowered, IsTyped}
use Rattle.vortex_lowering.specs.LoweredTrees.{tree_at_scale, bounded_tree}
use Rattle.vortex_lowering.proofs.TreeTypes.{others_none, arguments_none, bound_some, refused_none}
use Rattle.vortex_lowering.proofs.RowBounds.{bounded_made, bounds, bounds_none}
use Rattle.vortex_lowering.proofs.bounding.between.Goals as goal

pub returns-in_err-item : goal.returns-in_err-item
returns-in_err-item g c =
    let m = g.C.ScalarFnVTable.meaning in
    let o = c.args.options in
    let x = lowered c.args.item.tree c.args.item.operand in
    let low = lowered c.args.lower.tree c.args.lower.operand in
    let high = lowered c.args.upper.tree c.args.upper.operand in
    let scale = c.bounds_scale-scale.result in
    let a = tree_at_scale scale x in
    let b = tree_at_scale scale low in
    let d = tree_at_scale scale high in
    let made = bounded_made o x low high scale a b d c.bounds_scale-scale.ensures.value refl refl refl in
    let p = err_from_is_err_and c.from_residual-in_err-item.result c.from_residual-in_err-item.ensures.1 in
    rw (p.1, p.2) (UnlessMemory-weaker (λ e. tree_type m a ≡ None)
    (λ e. AreCompared low.operand x.operand × AreCompared x.operand high.operand
    × (tree_type m (bounded_tree o x low high) ≡ None) × ¬ (IsTyped m x × IsTyped m low × IsTyped m high))
    (λ e h. let n = bounds_none m o x low high c.in_ok-check_pair.ensures.1 c.in_ok-check_pair-2.ensures.1 _ made
    (arguments_none m (ours (Between o)) (trees_of (a ∷ b ∷ d ∷ []))
    (ap (λ k. with_type k (tree_types m (trees_of (b ∷ d ∷ [])))) h)) in (c.in_ok-check_pair.ensures, c.in_ok-check_pair-2.ensures, n.0, n.1)) c.in_err-item.field-0.0 c.in_err-item.ensures)

pub returns-in_err-lower : goal.returns-in_err-lower
returns-in_err-lower g c =
    let m = g.C.ScalarFnVTable.meaning in
    let o = c.args.options in
    let x = lowered c.args.item.tree c.args.item.operand in
    let low = lowered c.args.lower.tree c.args.lower.operand in
    let high = lowered c.args.upper.tree c.args.upper.operand in
    let scale = c.bounds_scale-scale.result in
    let a = tree_at_scale scale x in
    let b = tree_at_scale scale low in
    let d = tree_at_scale scale high in
    let made = bounded_made o x low high scale a b d c.bounds_scale-scale.ensures.value refl refl refl in
    let p = err_from_is_err_and c.from_residual-in_err-lower.result c.from_residual-in_err-lower.ensures.1 in
    rw (p.1, p.2) (UnlessMemory-weaker (λ e. tree_type m b ≡ None)
    (λ e. AreCompared low.operand x.operand × AreCompared x.operand high.operand
    × (tree_type m (bounded_tree o x low high) ≡ None) × ¬ (IsTyped m x × IsTyped m low × IsTyped m high))
    (λ e h. let n = bounds_none m o x low high c.in_ok-check_pair.ensures.1 c.in_ok-check_pair-2.ensures.1 _ made
    (arguments_none m (ours (Between o)) (trees_of (a ∷ b ∷ d ∷ []))
    (ap (λ k. with_type (tree_type m a) (with_type k (tree_types m (trees_of (d ∷ []))))) h ∙ others_none (tree_type m a))) in (c.in_ok-check_pair.ensures, c.in_ok-check_pair-2.ensures, n.0, n.1))
    c.in_err-lower.field-0.0 c.in_err-lower.ensures)

pub returns-in_err-upper : goal.returns-in_err-upper
returns-in_err-upper g c =
    let m = g.C.ScalarFnVTable.meaning in
    let o = c.args.options in
    let x = lowered c.args.item.tree c.args.item.operand in
    let low = lowered c.args.lower.tree c.args.lower.operand in
    let high = lowered c.args.upper.tree c.args.upper.operand in
    let scale = c.bounds_scale-scale.result in
    let a = tree_at_scale scale x in
    let b = tree_at_scale scale low in
    let d = tree_at_scale scale high in
    let made = bounded_made o x low high scale a b d c.bounds_scale-scale.ensures.value refl refl refl in
    let p = err_from_is_err_and c.from_residual-in_err-upper.result c.from_residual-in_err-upper.ensures.1 in
    rw (p.1, p.2) (UnlessMemory-weaker (λ e. tree_type m d ≡ None)
    (λ e. AreCompared low.operand x.operand × AreCompared x.operand high.operand
    × (tree_type m (bounded_tree o x low high) ≡ None) × ¬ (IsTyped m x × IsTyped m low × IsTyped m high))
    (λ e h. let n = bounds_none m o x low high c.in_ok-check_pair.ensures.1 c.in_ok-check_pair-2.ensures.1 _ made
    (arguments_none m (ours (Between o)) (trees_of (a ∷ b ∷ d ∷ []))
    (ap (λ k. with_type (tree_type m a) (with_type (tree_type m b) (with_type k (tree_types m (trees_of []))))) h
    ∙ ap (with_type (tree_type m a)) (others_none (tree_type m b)) ∙ others_none (tree_type m a))) in (c.in_ok-check_pair.ensures, c.in_ok-check_pair-2.ensures, n.0, n.1))
    c.in_err-upper.field-0.0 c.in_err-upper.ensures)

pub returns-in_err-bounded : goal.returns-in_err-bounded
returns-in_err-bounded g c =
    let m = g.C.ScalarFnVTable.meaning in
    let o = c.args.options in
    let x = lowered c.args.item.tree c.args.item.operand in
    let low = lowered c.args.lower.tree c.args.lower.operand in
    let high = lowered c.args.upper.tree c.args.upper.operand in
    let a = c.in_ok-item.item in
    let b = c.in_ok-lower.lower in
    let d = c.in_ok-upper.upper in
    let f = ours (Between o) in
    let made = bounded_made o x low high c.bounds_scale-scale.result a b d
    c.bounds_scale-scale.ensures.value c.in_ok-item.ensures c.in_ok-lower.ensures c.in_ok-upper.ensures in
    let p = err_from_is_err_and c.from_residual-in_err-bounded.result c.from_residual-in_err-bounded.ensures.1 in
    rw (p.1, p.2) (UnlessMemory-weaker (RefusesCall m f (a ∷ b ∷ d ∷ []))
    (λ e. AreCompared low.operand x.operand × AreCompared x.operand high.operand
    × (tree_type m (bounded_tree o x low high) ≡ None) × ¬ (IsTyped m x × IsTyped m low × IsTyped m high))
    (λ e h. let n = bounds_none m o x low high c.in_ok-check_pair.ensures.1 c.in_ok-check_pair-2.ensures.1 _ made
    (refused_none m f (a ∷ b ∷ d ∷ []) e h) in (c.in_ok-check_pair.ensures, c.in_ok-check_pair-2.ensures, n.0, n.1)) c.in_err-bounded.field-0.0 c.in_err-bounded.ensures)

pub returns : goal.returns
returns g c =
    let m = g.C.ScalarFnVTable.meaning in
    let o = c.args.options in
    let x = lowered c.args.item.tree c.args.item.operand in
    let low = lowered c.args.lower.tree c.args.lower.operand in
    let high = lowered c.args.upper.tree c.args.upper.operand in
    let t = c.in_ok-bounded.field-0 in
    let a = c.in_ok-item.item in
    let b = c.in_ok-lower.lower in
    let d = c.in_ok-upper.upper in
    let bound = c.in_ok-bounded.ensures in
    let is = bound.is ∙ bounded_made o x low high c.bounds_scale-scale.result a b d
    c.bounds_scale-scale.ensures.value c.in_ok-item.ensures c.in_ok-lower.ensures c.in_ok-upper.ensures in
    let typed = bound_some m (ours (Between o)) (a ∷ b ∷ d ∷ []) t bound in
    record {
      lower = c.in_ok-check_pair.ensures;
      upper = c.in_ok-check_pair-2.ensures;
      tree = is;
      takes = typed;
      rows = bounds m o x low high c.in_ok-check_pair.ensures.1 c.in_ok-check_pair-2.ensures.1
          c.stored_values_are_ordered.ensures c.rescaling_orders.ensures t is typed;
    }
