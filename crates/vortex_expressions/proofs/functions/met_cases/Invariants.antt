use Rattle.std.proofs.Common.{◌≡◌, length, map}
use Rattle.vortex_expressions.specs.Items.{item_in}
use Rattle.vortex_expressions.specs.Applied.{values_of}
use Rattle.vortex_expressions.specs.Functions.{met_values}
use Rattle.vortex_expressions.proofs.functions.met_cases.Given as goal

abbrev pub invariant-loop-rest : goal.invariant-loop-rest
invariant-loop-rest l =
    met_values l.kind l.met (values_of (map item_in l.rest))
    ≡ met_values l.kind l.fn.found (values_of (map item_in l.items))

abbrev pub decreases-loop-rest : goal.decreases-loop-rest
decreases-loop-rest l = length l.rest
