use Rattle.std.proofs.Common.{◌≡◌, length, map}
use Rattle.vortex_expressions.specs.Items.{item_in}
use Rattle.vortex_expressions.specs.Applied.{values_of}
use Rattle.vortex_expressions.specs.Kinded.{first_kind, fraction_kind}
use Rattle.vortex_expressions.proofs.functions.first_case_kind.Given as goal

abbrev pub invariant-loop-rest : goal.invariant-loop-rest
invariant-loop-rest l =
    first_kind (values_of (map item_in l.items))
    ≡ fraction_kind l.has_fraction (first_kind (values_of (map item_in l.rest)))

abbrev pub decreases-loop-rest : goal.decreases-loop-rest
decreases-loop-rest l = length l.rest
