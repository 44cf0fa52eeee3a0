use Rattle.std.proofs.Common.{◌≡◌, map, drop}
use Rattle.vortex_expressions.specs.Items.{item_in}
use Rattle.vortex_expressions.specs.Kinded.{first_kind, fraction_kind}
use Rattle.vortex_expressions.proofs.functions.first_kind.Given as goal

abbrev pub invariant-loop-item : goal.invariant-loop-item
invariant-loop-item l =
    fraction_kind l.fraction_before (first_kind (map item_in l.items))
    ≡ fraction_kind l.has_fraction (first_kind (map item_in (drop l.item-index l.items)))
