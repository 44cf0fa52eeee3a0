use Rattle.std.proofs.Common.{◌≡◌, ◌∷◌, []}
use Rattle.vortex_types.specs.TypeOf.{type_of}
use Rattle.vortex_types.specs.TypeCopies.{tops, effects, costs}
use Rattle.vortex_types.proofs.dtype.DType.copy_by_steps.Given as goal

-- the remaining steps lead exactly to the copy
abbrev pub invariant-loop-step : goal.invariant-loop-step
invariant-loop-step l = effects l.steps.items (tops l.made.items) ≡ type_of l.self ∷ []

abbrev pub decreases-loop-step : goal.decreases-loop-step
decreases-loop-step l = costs l.steps.items
