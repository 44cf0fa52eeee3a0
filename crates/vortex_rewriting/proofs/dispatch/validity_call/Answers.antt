use Rattle.std.proofs.Common.{ap, ◌∙◌}
use Rattle.std.specs.Option.{option_map}
use Rattle.vortex_errors.proofs.Answering.{AnswersUnlessMemory-weaker}
use Rattle.vortex_interface.specs.Trees.{trees_of, children_of}
use Rattle.vortex_interface.specs.ValidityRules.{default_validity}
use Rattle.vortex_functions.specs.FunctionOf.{function_of}
use Rattle.vortex_rewriting.specs.Contexts.{with_tree}
use Rattle.vortex_rewriting.specs.Told.{IsTold}
use Rattle.vortex_rewriting.specs.Reduced.{IsValidityBy}
use Rattle.vortex_rewriting.proofs.Listed.{no_instance, listed_validity}
use Rattle.vortex_rewriting.proofs.dispatch.validity_call.Goals as goal

pub returns-in_default : goal.returns-in_default
returns-in_default g c =
    let m = g.C.ScalarFnVTable.meaning in
    let r = g.C.ScalarFnVTable.rules in
    let seen = g.T.ReduceTree.seen in
    let s = seen c.args.node.now in
    let f = c.args.function.now in
    let table = default_validity m (function_of f) (trees_of (children_of s.tree)) in
    AnswersUnlessMemory-weaker c.default_validity.result (IsTold s seen table)
    (IsValidityBy m r seen s)
    (λ told e. e ∙ ap (option_map (with_tree s))
    (listed_validity m r f s.tree (no_instance m f c.in_default.not-Custom) c.requires))
    c.default_validity.ensures
