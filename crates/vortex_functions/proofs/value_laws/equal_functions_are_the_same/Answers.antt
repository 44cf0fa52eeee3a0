use Rattle.std.proofs.Common.{ap}
use Rattle.vortex_interface.specs.Shipped as shipped
use Rattle.vortex_functions.specs.declared.erased.ScalarFnRef.TheVariants as ref
use Rattle.vortex_functions.proofs.SameValues.{operators_tell, bounds_tell, likes_tell}
use Rattle.vortex_functions.proofs.SameValues.{instances_tell}
use Rattle.vortex_functions.proofs.value_laws.equal_functions_are_the_same.Goals as goal

pub returns : goal.returns
returns g c (ref.Binary o) (ref.Binary p) =
    let tells = operators_tell o p in (λ e. ap shipped.Binary (tells.0 e), λ a. tells.1 (cc))
returns g c (ref.Between o) (ref.Between p) =
    let tells = bounds_tell o p in (λ e. ap shipped.Between (tells.0 e), λ a. tells.1 (cc))
returns g c (ref.Like o) (ref.Like p) =
    let tells = likes_tell o p in (λ e. ap shipped.Like (tells.0 e), λ a. tells.1 (cc))
returns g c (ref.Custom f) (ref.Custom h) =
    let id = g.C.ScalarFnVTable.meaning.id in
    instances_tell (id f.vtable) (id h.vtable) (g.C.Options.PartialEq.eq f.options h.options)
returns g c (ref.Custom f) h = (λ e. cc, λ a. absurd a)
returns g c f (ref.Custom h) = (λ e. cc, λ a. absurd a)
returns g c f h = (λ e. cc, λ a. cc)
