use Rattle.std.proofs.Common.{length, ◌∙◌}
use Rattle.vortex_arrays.proofs.CodedRows.{beside_length}
use Rattle.vortex_arrays.proofs.dictionary.kernels.boolean_values.Goals as goal

pub execute_boolean-requires : goal.execute_boolean-requires
execute_boolean-requires c =
    beside_length c.args.scalar.now (length c.args.values.now.rows) c.deref.result.now
    (c.deref.ensures ∙ c.in_ok-other.ensures)
