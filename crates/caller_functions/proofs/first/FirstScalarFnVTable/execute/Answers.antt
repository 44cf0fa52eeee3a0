use Rattle.caller_functions.specs.First.{first_type}
use Rattle.caller_functions.proofs.Firsts.{first_type_is, copy_answers}
use Rattle.caller_functions.proofs.first.FirstScalarFnVTable.execute.Goals as goal

pub returns : goal.returns
returns g c =
    let cs = g.A.ExecutionArgs.inputs c.args.args.now in
    let input = c.in_ok-get.field-0.now in
    copy_answers first_type cs input (g.A.ExecutionArgs.rows c.args.args.now) c.try_clone.result
    (first_type_is cs input c.in_ok-get.ensures.input) c.in_ok-get.ensures.input
    c.in_ok-get.ensures.count c.try_clone.ensures
