use Rattle.vortex_types.specs.TypeOf.{type_of}
use Rattle.caller_functions.proofs.Firsts.{has_first}
use Rattle.caller_functions.proofs.first.FirstScalarFnRules.simplify.Goals as goal

pub child-requires : goal.child-requires
child-requires c =
    has_first c.args.expression.now c.args.self.now c.args._options.now
    (type_of c.dtype-typed.result.now) c.requires c.dtype-typed.ensures.dtype
