use Rattle.std.proofs.Common.{length, ◌∙◌}
use Rattle.vortex_arrays.proofs.CodedRows.{beside_length}
use Rattle.vortex_arrays.proofs.dictionary.kernels.compare_values.Goals as goal

pub compare_alike-requires-clause-lengths : goal.compare_alike-requires-clause-lengths
compare_alike-requires-clause-lengths c =
    beside_length c.args.scalar.now (length c.args.values.now.rows) c.deref.result.now
    (c.deref.ensures ∙ c.in_ok-other.ensures)
