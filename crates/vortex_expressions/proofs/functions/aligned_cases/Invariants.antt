use Rattle.std.proofs.Common.{◌≡◌, ◌++◌, length, map}
use Rattle.vortex_expressions.specs.Outcomes.{answers, and_then}
use Rattle.vortex_expressions.specs.Items.{item_in}
use Rattle.vortex_expressions.specs.Functions.{aligned_cases}
use Rattle.vortex_expressions.proofs.functions.aligned_cases.Given as goal

abbrev pub invariant-loop-rest : goal.invariant-loop-rest
invariant-loop-rest l =
    aligned_cases l.kind l.common (map item_in l.items)
    ≡ and_then (aligned_cases l.kind l.common (map item_in l.rest))
    (λ js. answers (map item_in l.cases.items ++ js))

abbrev pub decreases-loop-rest : goal.decreases-loop-rest
decreases-loop-rest l = length l.rest
