use Rattle.std.proofs.Common.{◌≡◌, ◌++◌, map, drop}
use Rattle.vortex_expressions.specs.Outcomes.{answers, and_then}
use Rattle.vortex_expressions.specs.Items.{item_in}
use Rattle.vortex_expressions.specs.Joining.{as_texts}
use Rattle.vortex_expressions.proofs.joining.as_texts.Given as goal

abbrev pub invariant-loop-item : goal.invariant-loop-item
invariant-loop-item l =
    as_texts (map item_in l.items)
    ≡ and_then (as_texts (map item_in (drop l.item-index l.items)))
    (λ js. answers (map item_in l.texts.items ++ js))
