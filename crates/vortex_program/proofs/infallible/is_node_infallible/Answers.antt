use Rattle.std.proofs.Common.{sym, ◌∙◌}
use Rattle.vortex_functions.specs.FunctionOf.{function_of}
use Rattle.vortex_standard.specs.Standard.{standard_meaning}
use Rattle.vortex_program.proofs.Faultless.{node_free, leaf_free}
use Rattle.vortex_program.proofs.infallible.is_node_infallible.Goals as goal

pub returns-in-Some : goal.returns-in-Some
returns-in-Some c h =
    node_free standard_meaning c.args.node.now (function_of c.in-Some.function.now) c.in-Some.ensures
    (sym c.signature.ensures.infallible ∙ h)

pub returns-in-None : goal.returns-in-None
returns-in-None c h = leaf_free standard_meaning c.args.node.now c.in-None.ensures
