use Rattle.std.proofs.Common.{◌≡◌, map, ap, ◌∙◌, arith}
use Rattle.std.proofs.lemmas.Grind.{common_steps}
use Rattle.vortex_interface.specs.ValidityRules.{all_of}
use Rattle.vortex_interface.proofs.JoinedByAnd.{all_of-one_round}
use Rattle.vortex_rewriting.specs.Contexts.{tree_by}
use Rattle.vortex_rewriting.proofs.Unions.{last_truth, fewer_nodes}
use Rattle.vortex_rewriting.proofs.union.all_of.Goals as goal

pub loop-tests-smaller : goal.loop-tests-smaller
loop-tests-smaller g c =
    let fewer = fewer_nodes (tree_by g.T.ReduceTree.seen) c.loop-tests.tests.items
    c.in_ok-tests.tests.items (omega arith) c.in_ok-tests.ensures.answer in
    omega (arith, fewer)

pub loop-tests-preserved : goal.loop-tests-preserved
loop-tests-preserved g c = (
  ap all_of c.in_ok-tests.ensures.answer
      ∙ all_of-one_round (map (tree_by g.T.ReduceTree.seen) c.loop-tests.tests.items)
      ∙ c.loop-tests.invariant.0,
  c.in_ok-tests.ensures.truths,
)

pub returns-in-Some : goal.returns-in-Some
returns-in-Some g c =
    let seen = g.T.ReduceTree.seen in
    let tests = c.args.tests.items in
    let is : (seen c.in-Some.test).tree ≡ all_of (map (tree_by seen) tests) =
    grind (arith, common_steps) in
    let here =
    last_truth g.C.ScalarFnVTable.meaning seen (seen c.args.node.now).context
    c.loop-tests.tests.items c.pop.new.self.items c.in-Some.test c.in-Some.ensures.items
    c.loop-tests.invariant.1 in
    λ j. record { tree = is j; context = here.1 j }
