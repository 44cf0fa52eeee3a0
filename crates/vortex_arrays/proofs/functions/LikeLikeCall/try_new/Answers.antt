use Rattle.std.proofs.Common.{[], ◌∷◌, refl}
use Rattle.vortex_interface.specs.Shipped.{Like}
use Rattle.vortex_interface.specs.Functions.{ours}
use Rattle.vortex_functions.specs.Arrays.{rows_in}
use Rattle.vortex_arrays.proofs.Calls.{on_operands}
use Rattle.vortex_arrays.proofs.functions.LikeLikeCall.try_new.Goals as goal

pub returns : goal.returns
returns g c =
    on_operands g.C.ScalarFnVTable.meaning (ours (Like c.args.options))
    (c.args.input ∷ c.args.pattern ∷ [])
    (rows_in c.args.input) refl c.call_of_two.result c.call_of_two.ensures
