use Rattle.vortex_sql_calls.specs.Calls.{AreTypedBelow}
use Rattle.vortex_sql_calls.proofs.call.typed_inputs.Given as goal

-- the inputs so far
abbrev pub invariant-loop-k : goal.invariant-loop-k
invariant-loop-k g l =
    AreTypedBelow l.k (g.A.ExecutionArgs.inputs l.args) (g.A.ExecutionArgs.rows l.args)
