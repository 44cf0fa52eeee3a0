use Rattle.std.proofs.Common.{◌≡◌, ◌++◌, map, drop}
use Rattle.vortex_expressions.specs.Outcomes.{answers, and_then}
use Rattle.vortex_expressions.specs.Items.{item_in}
use Rattle.vortex_expressions.specs.Functions.{aligned_items}
use Rattle.vortex_expressions.proofs.functions.aligned_items.Given as goal

abbrev pub invariant-loop-item : goal.invariant-loop-item
invariant-loop-item l =
    aligned_items l.kind l.common (map item_in l.items)
    ≡ and_then (aligned_items l.kind l.common (map item_in (drop l.item-index l.items)))
    (λ js. answers (map item_in l.aligned.items ++ js))
