use Rattle.std.proofs.Common.{[], ◌∷◌, refl}
use Rattle.vortex_interface.specs.Shipped.{Between}
use Rattle.vortex_interface.specs.Functions.{ours}
use Rattle.vortex_functions.specs.Arrays.{rows_in}
use Rattle.vortex_arrays.proofs.Calls.{on_operands}
use Rattle.vortex_arrays.proofs.functions.BetweenBetweenCall.try_new.Goals as goal

pub returns : goal.returns
returns g c =
    on_operands g.C.ScalarFnVTable.meaning (ours (Between c.args.options))
    (c.args.array ∷ c.args.lower ∷ c.args.upper ∷ [])
    (rows_in c.args.array) refl c.call_of_three.result c.call_of_three.ensures
