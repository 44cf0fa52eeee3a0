use Rattle.std.proofs.Common.{◌≡◌, map, drop}
use Rattle.std.specs.List.{list_all}
use Rattle.vortex_expressions.specs.Items.{item_in}
use Rattle.vortex_expressions.specs.Arguments.{is_null}
use Rattle.vortex_expressions.proofs.arguments.are_null.Given as goal

abbrev pub invariant-loop-item : goal.invariant-loop-item
invariant-loop-item l =
    list_all is_null (map item_in l.items)
    ≡ list_all is_null (map item_in (drop l.item-index l.items))
