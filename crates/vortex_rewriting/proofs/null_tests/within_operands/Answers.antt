use Rattle.std.proofs.Common.{refl, sym, subst}
use Rattle.std.specs.Prelude.{IsSome}
use Rattle.vortex_interface.specs.ComparisonTrees.{operated}
use Rattle.vortex_interface.specs.Eval.{tree_type}
use Rattle.vortex_rewriting.proofs.NullTestNodes.{type_of_split}
use Rattle.vortex_rewriting.proofs.null_tests.within_operands.Goals as goal

pub call_on_two-requires-clause-accepts : goal.call_on_two-requires-clause-accepts
call_on_two-requires-clause-accepts g c =
    let m = g.C.ScalarFnVTable.meaning in
    let x = (g.T.ReduceTree.seen c.in_ok-tested.tested).tree in
    let y = (g.T.ReduceTree.seen c.in_ok-other.other).tree in
    let typed =
    type_of_split m c.args.test x y c.in_ok-tested.ensures.truth c.in_ok-other.ensures.truth in
    subst (λ op. IsSome (tree_type m (operated op x y))) (sym c.joined_by.ensures)
    (subst (λ o. IsSome o) (sym typed) refl)
