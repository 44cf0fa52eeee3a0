use Rattle.std.proofs.Common.{◌≡◌, ◌++◌, length, map, option_map}
use Rattle.vortex_types.specs.TypeOf.{type_of}
use Rattle.vortex_expressions.specs.Outcomes.{answers, and_then}
use Rattle.vortex_expressions.specs.Items.{item_in}
use Rattle.vortex_expressions.specs.Applied.{cases_settled}
use Rattle.vortex_expressions.proofs.applied.settle_cases.Given as goal

abbrev pub invariant-loop-rest : goal.invariant-loop-rest
invariant-loop-rest l =
    cases_settled (option_map (λ t. type_of t.now) l.beside) (map item_in l.items)
    ≡ and_then (cases_settled (option_map (λ t. type_of t.now) l.beside) (map item_in l.rest))
    (λ us. answers (l.trees.items ++ us))

abbrev pub decreases-loop-rest : goal.decreases-loop-rest
decreases-loop-rest l = length l.rest
