use Rattle.std.proofs.Common.{sym, subst, ap, ◌∙◌}
use Rattle.vortex_functions.specs.FunctionOf.{function_of}
use Rattle.vortex_functions.specs.declared.tree.Parts.{Parts}
use Rattle.vortex_functions.specs.Nodes.{IsNode}
use Rattle.vortex_functions.proofs.Counts.{seen_as}
use Rattle.vortex_functions.proofs.Leaves.{leaf_has_none, call_has}
use Rattle.vortex_functions.proofs.tree.Tree.below.Goals as goal

pub returns-in-Leaf : goal.returns-in-Leaf
returns-in-Leaf g c =
    let l = g.L.Leaf in
    let is = seen_as l c.args.self.now c.self.inside _ c.self.view_is c.in-Leaf.is in
    sym (ap l.children is ∙ leaf_has_none l c.in-Leaf.field-0 c.self.inside.context)

pub returns-in-Call : goal.returns-in-Call
returns-in-Call g c =
    let l = g.L.Leaf in
    let m = g.C.ScalarFnVTable.meaning in
    let b = c.self.inside.context in
    let is = seen_as l c.args.self.now c.self.inside _ c.self.view_is c.in-Call.is in
    let node =
    subst (λ x. IsNode l.tree_of l.context_of m l.rule l.fits b x) c.in-Call.is
    c.self.invariant.0 in
    let parts = c.in-Call.parts.value in
    c.deref-in-Call.ensures.value
    ∙ ap (λ (p : Parts _ _ _ _ _). p.children.items) c.deref.ensures
    ∙ call_has l (function_of parts.function) b parts.children.items node.1
    ∙ ap l.children (sym is)
