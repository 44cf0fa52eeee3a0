use Rattle.std.proofs.Common.{◌≡◌, ◌++◌, map, drop}
use Rattle.vortex_expressions.specs.Outcomes.{answers, and_then}
use Rattle.vortex_expressions.specs.Items.{item_in}
use Rattle.vortex_expressions.specs.Arguments.{each_settled}
use Rattle.vortex_expressions.proofs.arguments.settle_each.Given as goal

abbrev pub invariant-loop-item : goal.invariant-loop-item
invariant-loop-item l =
    each_settled l.fn.first l.fn.second l.others (map item_in l.items)
    ≡ and_then (each_settled l.kind l.next l.others (map item_in (drop l.item-index l.items)))
    (λ us. answers (l.trees.items ++ us))
