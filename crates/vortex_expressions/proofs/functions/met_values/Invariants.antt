use Rattle.std.proofs.Common.{◌≡◌, map, drop}
use Rattle.vortex_expressions.specs.Items.{item_in}
use Rattle.vortex_expressions.specs.Functions.{met_values}
use Rattle.vortex_expressions.proofs.functions.met_values.Given as goal

abbrev pub invariant-loop-item : goal.invariant-loop-item
invariant-loop-item l =
    met_values l.kind l.fn.found (map item_in l.items)
    ≡ met_values l.kind l.met (map item_in (drop l.item-index l.items))
