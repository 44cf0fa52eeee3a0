use Rattle.std.proofs.Common.{[], ◌∷◌, refl}
use Rattle.vortex_interface.specs.Shipped.{Not}
use Rattle.vortex_interface.specs.Functions.{ours}
use Rattle.vortex_functions.specs.Arrays.{rows_in}
use Rattle.vortex_arrays.proofs.Calls.{on_operands}
use Rattle.vortex_arrays.proofs.functions.NotUnaryCall.try_new.Goals as goal

pub returns : goal.returns
returns g c =
    on_operands g.C.ScalarFnVTable.meaning (ours Not) (c.args.input ∷ [])
    (rows_in c.args.input) refl c.call_of_one.result c.call_of_one.ensures
