use Rattle.std.proofs.Common.{◌≡◌, sym, ap, subst, ◌∙◌}
use Rattle.std.specs.Prelude.{All}
use Rattle.std.specs.Cow.{cow_value}
use Rattle.std.proofs.lemmas.Result.{err_from_is_err_and}
use Rattle.std.proofs.lemmas.List.Elements.{All-map}
use Rattle.vortex_functions.specs.FunctionOf.{function_of}
use Rattle.vortex_functions.specs.Binding.{IsCall}
use Rattle.vortex_rewriting.proofs.NodeLists.{trees_of_copies, refused_as_copies}
use Rattle.vortex_rewriting.proofs.tree_node.TreeReduceNodeTreeReduceTree.new_node.Goals as goal

pub try_call-requires : goal.try_call-requires
try_call-requires g c =
    let context = g.L.Leaf.context_of in
    subst (All (λ t. context t ≡ c.context.result)) (sym c.in_ok-copies.ensures)
    (All-map (λ t. context t ≡ c.context.result) (λ n. cow_value n.tree) c.args.children.now
    (λ k d lt. c.requires k d lt ∙ ap context (sym c.tree.ensures) ∙ sym c.context.ensures))

pub returns-in_err-call : goal.returns-in_err-call
returns-in_err-call g c =
    let m = g.C.ScalarFnVTable.meaning in
    let f = function_of c.args.function in
    let p =
    err_from_is_err_and c.from_residual-in_err-call.result c.from_residual-in_err-call.ensures.1 in
    rw (p.1, p.2)
    (refused_as_copies m f g.L.Leaf.tree_of c.args.children.now c.in_ok-copies.copies.items
    c.in_err-call.field-0.0 c.in_ok-copies.ensures c.in_err-call.ensures)

pub returns : goal.returns
returns g c =
    let m = g.C.ScalarFnVTable.meaning in
    let f = function_of c.args.function in
    let context = g.L.Leaf.context_of in (
      subst (λ ts. IsCall m f ts (g.L.Leaf.tree_of c.in_ok-call.call))
          (trees_of_copies g.L.Leaf.tree_of c.args.children.now c.in_ok-copies.copies.items
          c.in_ok-copies.ensures) c.in_ok-call.ensures.0,
      c.in_ok-call.ensures.1 ∙ c.context.ensures ∙ ap context c.tree.ensures,
    )
