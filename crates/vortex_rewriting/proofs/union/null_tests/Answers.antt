use Rattle.std.proofs.Common.{sym, ap, ◌∙◌}
use Rattle.vortex_types.specs.TypeOf.{type_of}
use Rattle.vortex_interface.specs.Trees.{children_of}
use Rattle.vortex_rewriting.proofs.Unions.{one_more_test, no_more_test}
use Rattle.vortex_rewriting.proofs.union.null_tests.Goals as goal
use Rattle.vortex_rewriting.proofs.union.null_tests.Goals.{then-is_nullable+in_ok-tested+in_ok-push}
use Rattle.vortex_rewriting.proofs.union.null_tests.Goals.{else-is_nullable}

pub loop-index-preserved : goal.loop-index-preserved
loop-index-preserved g c =
    let m = g.C.ScalarFnVTable.meaning in
    let seen = g.T.ReduceTree.seen in
    let n = (seen c.args.node.now).context in
    let ts = children_of (seen c.args.node.now).tree in
    let i = c.loop-index.index in
    let t = (seen c.in_ok-child.child).tree in
    let k = type_of c.node_dtype.result.now in
    let tests = c.loop-index.tests.items in
    let after = c.if-is_nullable.tests.items in
    elim c.if-is_nullable.branch [
      | then-is_nullable+in_ok-tested+in_ok-push w ↦
          one_more_test m seen n ts i t k tests w.in_ok-tested.field-0 w.push.new.self.items
          after c.in_ok-child.ensures.answer.0 c.node_dtype.ensures
          (sym c.is_nullable.ensures ∙ w.if-is_nullable.true) c.loop-index.invariant
          w.in_ok-push.ensures.items (ap (λ v. v.items) w.tests-is)
          (ap (λ s. s.tree) w.in_ok-tested.ensures.answer)
          (ap (λ s. s.context) w.in_ok-tested.ensures.answer ∙ c.in_ok-child.ensures.answer.1)
      | else-is_nullable w ↦
          no_more_test m seen n ts i t k tests after c.in_ok-child.ensures.answer.0
          c.node_dtype.ensures (sym c.is_nullable.ensures ∙ w.if-is_nullable.false)
          c.loop-index.invariant (ap (λ v. v.items) w.tests-is)
    ]
