use Rattle.std.proofs.Common.{◌≡◌, map, take}
use Rattle.vortex_types.specs.TypeOf.{type_of}
use Rattle.vortex_interface.specs.Outcomes.{types_in}
use Rattle.vortex_sql_calls.proofs.call.input_types.Given as goal

-- the types of the inputs so far
abbrev pub invariant-loop-k : goal.invariant-loop-k
invariant-loop-k g l =
    map type_of l.types.items ≡ types_in (take l.k (g.A.ExecutionArgs.inputs l.args))
