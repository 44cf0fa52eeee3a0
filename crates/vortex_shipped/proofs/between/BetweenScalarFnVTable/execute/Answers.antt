use Rattle.std.proofs.lemmas.Bool.{eqb-true}
use Rattle.vortex_shipped.proofs.BetweenCalls.{three_alike, between_call}
use Rattle.vortex_shipped.proofs.between.BetweenScalarFnVTable.execute.Goals as goal

pub returns : goal.returns
returns g c =
    let options = c.args.options.now in
    let cs = g.A.ExecutionArgs.inputs c.args.args.now in
    let n = g.A.ExecutionArgs.rows c.args.args.now in
    let x = c.in_ok-array.array.now in
    let lower = c.in_ok-lower.lower.now in
    let upper = c.in_ok-upper.upper.now in
    let here = c.in_ok-array.ensures in
    let three =
    three_alike cs x lower upper (eqb-true _ _ c.requires.arity) c.requires.accepted here.input c.in_ok-lower.ensures.input
    c.in_ok-upper.ensures.input in
    between_call options cs x lower upper n three c.execute_between.result here.count
    c.execute_between.ensures.rows
