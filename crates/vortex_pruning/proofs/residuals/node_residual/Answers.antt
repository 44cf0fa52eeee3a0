use Rattle.std.proofs.Common.{◌≡◌, ◌∙◌, List, Option, Some, map, sym, ap, subst}
use Rattle.std.specs.Prelude.{IsSome, MatchOption}
use Rattle.vortex_types.specs.ScalarView.{ScalarView}
use Rattle.vortex_types.specs.Values.{Value}
use Rattle.vortex_types.specs.TypeOf.{type_of}
use Rattle.vortex_interface.specs.Trees.{children_of}
use Rattle.vortex_interface.specs.Eval.{tree_type}
use Rattle.vortex_functions.specs.Walks.{AllMean}
use Rattle.vortex_rewriting.specs.Places.{with_children}
use Rattle.vortex_ranges.specs.declared.range.Range.{Range}
use Rattle.vortex_ranges.specs.BoundViews.{range_of}
use Rattle.vortex_pruning.specs.Knowing.{Knows}
use Rattle.vortex_pruning.specs.Residuals.{sole_value, IsSettledTo, Leaves}
use Rattle.vortex_pruning.proofs.TreesLeft.{ranges_known, still_typed, literal_left, over_left}
use Rattle.vortex_pruning.proofs.TreesLeft.{leaves_more}
use Rattle.vortex_pruning.proofs.residuals.node_residual.Goals as goal

pub node_range-requires : goal.node_range-requires
node_range-requires g c =
    let m = g.C.ScalarFnVTable.meaning in
    let ss = c.args.statistics.now in
    let n = c.args.rows in
    let t = c.args.node.now in
    subst (λ (rs : List Range). AllMean (λ t r. Knows m n ss t (range_of r)) (children_of t) rs)
    (sym (c.deref-2.ensures.value ∙ c.in_ok-ranges.ensures
    ∙ ap (map (λ r. r.range)) c.deref.ensures.value))
    (ranges_known m n ss (children_of t) c.args.inputs.items c.requires)

pub returns-in-Some : goal.returns-in-Some
returns-in-Some g c =
    let m = g.C.ScalarFnVTable.meaning in
    let ss = c.args.statistics.now in
    let n = c.args.rows in
    let t = c.args.node.now in
    let r = range_of c.in_ok-range.range in
    let k = type_of c.dtype.result.now in
    let s = c.in-Some.scalar in
    let said : (s.dtype ≡ k) × (sole_value r ≡ Some s.value) =
    subst (λ (o : Option ScalarView). MatchOption o ((v : Value) → ¬ IsSettledTo k r v)
    (λ s. (s.dtype ≡ k) × (sole_value r ≡ Some s.value))) c.in-Some.is c.in_ok-scalar.ensures in
    subst (λ u. Leaves m n ss t u r) (sym c.lit-tree.ensures)
    (literal_left m n ss t r s.dtype s.value c.in_ok-range.ensures
    (c.dtype.ensures.dtype ∙ ap Some (sym said.0)) said.1)

pub over_children-requires : goal.over_children-requires
over_children-requires g c =
    let m = g.C.ScalarFnVTable.meaning in
    let ss = c.args.statistics.now in
    let n = c.args.rows in
    let t = c.args.node.now in
    subst (λ us. IsSome (tree_type m (with_children t us)))
    (sym (c.in_ok-children.ensures ∙ ap (map (λ r. r.tree)) c.deref-3.ensures.value))
    (still_typed m n ss t c.args.inputs.items (type_of c.dtype-typed.result.now) c.requires
    c.dtype-typed.ensures.dtype)

pub returns : goal.returns
returns g c =
    let m = g.C.ScalarFnVTable.meaning in
    let ss = c.args.statistics.now in
    let n = c.args.rows in
    let t = c.args.node.now in
    let r = range_of c.in_ok-range.range in
    let k = type_of c.dtype.result.now in
    let none : (v : Value) → ¬ IsSettledTo k r v =
    subst (λ (o : Option ScalarView). MatchOption o ((v : Value) → ¬ IsSettledTo k r v)
    (λ s. (s.dtype ≡ k) × (sole_value r ≡ Some s.value))) c.in_default.is c.in_ok-scalar.ensures in
    let made = c.in_ok-tree.ensures ∙ ap (with_children t)
    (c.in_ok-children.ensures ∙ ap (map (λ r. r.tree)) c.deref-3.ensures.value) in
    subst (λ u. Leaves m n ss t u r) (sym made)
    (over_left m n ss t c.args.inputs.items r c.requires c.in_ok-range.ensures
    (leaves_more m n ss t r k c.dtype.ensures.dtype none))
