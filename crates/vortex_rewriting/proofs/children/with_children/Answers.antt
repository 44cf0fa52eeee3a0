use Rattle.std.proofs.Common.{map, Some, sym, ap, ◌∙◌}
use Rattle.vortex_functions.specs.FunctionOf.{function_of}
use Rattle.vortex_rewriting.proofs.OtherChildren.{call_on_others}
use Rattle.vortex_rewriting.proofs.children.with_children.Goals as goal

pub returns-in_ok-try_clone-in-Some : goal.returns-in_ok-try_clone-in-Some
returns-in_ok-try_clone-in-Some g c =
    let m = g.C.ScalarFnVTable.meaning in
    let l = g.L.Leaf in
    let us = map l.tree_of c.args.children.items in
    let f = function_of c.in_ok-try_clone-in-Some.field-0 in
    let called =
    c.in-Some.ensures ∙ ap (λ f. Some (function_of f)) (sym c.in_ok-try_clone-in-Some.ensures) in
    call_on_others m (l.tree_of c.args.tree.now) f called us c.requires.typed l.tree_of
    l.context_of c.context.result (l.context_of c.args.tree.now) c.context.ensures c.try_call.result
    c.try_call.ensures
