use Rattle.std.proofs.Common.{length, ◌∙◌}
use Rattle.caller_functions.proofs.RunRows.{constant_length}
use Rattle.caller_functions.proofs.run_length.compare_runs.Goals as goal

pub compare_alike-requires-clause-lengths : goal.compare_alike-requires-clause-lengths
compare_alike-requires-clause-lengths c =
    constant_length c.args.scalar.now (length c.args.values.now.rows) c.deref.result.now
    (c.deref.ensures ∙ c.in_ok-beside.ensures)
