use Rattle.std.proofs.Common.{◌≡◌, ◌++◌, map, string_bytes, take}
use Rattle.std.specs.List.{flat_map}
use Rattle.vortex_syntax.specs.Postfix.{step_in}
use Rattle.vortex_program.specs.Names.{step_names}
use Rattle.vortex_program.proofs.names.push_steps.Given as goal

-- the names so far
abbrev pub invariant-loop-step : goal.invariant-loop-step
invariant-loop-step l =
    map string_bytes l.names.items ≡ map string_bytes l.initial.names.items
    ++ flat_map (λ s. step_names (step_in s)) (take l.step-index l.steps)
