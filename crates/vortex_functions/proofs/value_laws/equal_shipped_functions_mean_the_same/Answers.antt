use Rattle.std.proofs.Common.{ap}
use Rattle.vortex_interface.specs.Functions.{function_means}
use Rattle.vortex_functions.specs.FunctionOf.{function_of}
use Rattle.vortex_functions.proofs.SameValues.{same_as_shipped}
use Rattle.vortex_functions.proofs.value_laws.equal_shipped_functions_mean_the_same.Goals as goal

pub returns : goal.returns
returns g c f h s is e ts vs =
    let m = g.C.ScalarFnVTable.meaning in
    let same = (c.equal_functions_are_the_same.ensures f h).0 e in
    ap (λ it. function_means m it ts vs)
    (same_as_shipped m.id g.C.Options.PartialEq.eq (function_of f) (function_of h) s is same)
