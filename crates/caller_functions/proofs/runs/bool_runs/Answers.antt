use Rattle.vortex_columns.specs.ValidityView.{validity_of}
use Rattle.caller_functions.proofs.RunRows.{bool_run_rows}
use Rattle.caller_functions.proofs.runs.bool_runs.Goals as goal

pub returns : goal.returns
returns c =
    bool_run_rows c.args.values.now c.args.starts.now c.args.len c.in_ok-bits.bits
    (validity_of c.in_ok-validity.validity) c.try_bool.result c.requires.bool c.requires.within
    c.dtype.ensures.typed c.in_ok-validity.ensures c.in_ok-bits.ensures c.try_bool.ensures
