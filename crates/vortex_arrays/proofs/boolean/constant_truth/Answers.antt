use Rattle.vortex_arrays.proofs.BooleanSides.{truth_of_constant}
use Rattle.vortex_arrays.proofs.boolean.constant_truth.Goals as goal

pub returns : goal.returns
returns c =
    truth_of_constant c.in_ok-scalar.scalar.now c.args.column.now c.as_bool_opt.result
    c.in_ok-scalar.ensures c.requires c.dtype.ensures.typed c.as_bool_opt.ensures
