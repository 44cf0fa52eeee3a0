use Rattle.std.proofs.Common.{◌≡◌, Some, sym, ap, ◌∙◌}
use Rattle.std.specs.Option.{option_map}
use Rattle.vortex_interface.specs.ReduceRules.{reduce}
use Rattle.vortex_rewriting.specs.Contexts.{tree_by}
use Rattle.vortex_rewriting.specs.NodeTrees.{node_seen}
use Rattle.vortex_rewriting.proofs.Made.{made_tree, made_context}
use Rattle.vortex_rewriting.proofs.Walking.{of_some}
use Rattle.vortex_rewriting.proofs.rule.reduce_tree.Goals as goal

pub returns-in-Some : goal.returns-in-Some
returns-in-Some g c =
    let m = g.C.ScalarFnVTable.meaning in
    let r = g.C.ScalarFnVTable.rules in
    let tree = g.L.Leaf.tree_of in
    let rows = g.L.Leaf.context_of in
    let seen = node_seen tree rows in
    let s = seen c.new-node.result in
    let table = reduce m r s.tree in
    let answer = c.in_ok-made.field-0 in
    let is = c.in_ok-into_tree-in-Some.ensures.answer in
    let same = c.new-node.ensures.value in (
      ap (λ u. Some (tree u)) is
          ∙ ap (option_map (tree_by seen)) (sym c.in-Some.is)
          ∙ made_tree seen s table answer c.in_ok-made.ensures
          ∙ ap (λ u. reduce m r (tree u)) same,
      ap rows is
          ∙ of_some (λ node. (seen node).context ≡ s.context) answer c.in-Some.made
          (made_context seen s table answer c.in_ok-made.ensures) c.in-Some.is
          ∙ ap rows same,
    )

pub returns : goal.returns
returns g c =
    let m = g.C.ScalarFnVTable.meaning in
    let r = g.C.ScalarFnVTable.rules in
    let tree = g.L.Leaf.tree_of in
    let seen = node_seen tree g.L.Leaf.context_of in
    let s = seen c.new-node.result in (
      ap (option_map (tree_by seen)) (sym c.in-None.is)
          ∙ made_tree seen s (reduce m r s.tree) c.in_ok-made.field-0 c.in_ok-made.ensures
          ∙ ap (λ u. reduce m r (tree u)) c.new-node.ensures.value,
      tt,
    )
