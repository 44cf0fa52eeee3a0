use Rattle.std.proofs.Common.{length, ◌∙◌}
use Rattle.caller_functions.proofs.RunRows.{constant_length}
use Rattle.caller_functions.proofs.run_length.boolean_runs.Goals as goal

pub execute_boolean-requires : goal.execute_boolean-requires
execute_boolean-requires c =
    constant_length c.args.scalar.now (length c.args.values.now.rows) c.deref.result.now
    (c.deref.ensures ∙ c.in_ok-beside.ensures)
