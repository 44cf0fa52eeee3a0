use Rattle.std.proofs.Common.{Some, sym, ap, ◌∙◌}
use Rattle.std.specs.Option.{option_map}
use Rattle.vortex_interface.specs.SimplifyRules.{simplify}
use Rattle.vortex_rewriting.specs.Contexts.{tree_by}
use Rattle.vortex_rewriting.specs.NodeTrees.{expression_seen}
use Rattle.vortex_rewriting.proofs.Made.{made_tree}
use Rattle.vortex_rewriting.proofs.dispatch.simplify_binary.Goals as goal

pub returns-in-Some : goal.returns-in-Some
returns-in-Some g c =
    let m = g.C.ScalarFnVTable.meaning in
    let r = g.C.ScalarFnVTable.rules in
    let s = expression_seen c.new-node.result in
    ap Some c.in_ok-expression-in-Some.ensures.answer
    ∙ ap (option_map (tree_by expression_seen)) (sym c.in-Some.is)
    ∙ made_tree expression_seen s (simplify m r s.tree) c.in_ok-made.field-0
    (c.in_ok-made.ensures r)
    ∙ ap (simplify m r) c.new-node.ensures.value

pub returns : goal.returns
returns g c =
    let m = g.C.ScalarFnVTable.meaning in
    let r = g.C.ScalarFnVTable.rules in
    let s = expression_seen c.new-node.result in
    ap (option_map (tree_by expression_seen)) (sym c.in-None.is)
    ∙ made_tree expression_seen s (simplify m r s.tree) c.in_ok-made.field-0
    (c.in_ok-made.ensures r)
    ∙ ap (simplify m r) c.new-node.ensures.value
