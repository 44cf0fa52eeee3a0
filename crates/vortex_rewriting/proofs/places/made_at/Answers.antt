use Rattle.std.proofs.Common.{◌≡◌, Some, ap, sym, ◌∙◌}
use Rattle.std.specs.Option.{option_map}
use Rattle.vortex_types.specs.TypeOf.{type_of}
use Rattle.vortex_rewriting.proofs.places.made_at.Goals as goal

pub path_up-requires-clause-same_type : goal.path_up-requires-clause-same_type
path_up-requires-clause-same_type g c =
    let l = g.L.Leaf in
    let place = l.tree_of c.in_ok-way.way.place.now in
    let made : g.L.RewriteLeaf.applied c.args.rule place ≡ Some (l.tree_of c.in-Some.new) =
    sym c.in_ok-apply.ensures.0 ∙ ap (option_map l.tree_of) c.in-Some.is in
    (g.met.L.RewriteLeaf.sound c.args.rule place (l.tree_of c.in-Some.new)
    (type_of c.dtype-typed.result.now) c.dtype-typed.ensures.dtype made).dtype
