use Rattle.std.proofs.lemmas.Bool.{eqb-true}
use Rattle.vortex_shipped.proofs.NullTestCalls.{null_test_call}
use Rattle.vortex_shipped.proofs.null_tests.NullTestOfScalarFnVTable.execute.Goals as goal

pub returns : goal.returns
returns g c =
    let cs = g.A.ExecutionArgs.inputs c.args.args.now in
    let n = g.A.ExecutionArgs.rows c.args.args.now in
    let input = c.in_ok-input.input.now in
    let here = c.in_ok-input.ensures in
    null_test_call _ cs input n c.execute_null_test.result (eqb-true _ _ c.requires.arity) here.input here.count
    c.execute_null_test.ensures
