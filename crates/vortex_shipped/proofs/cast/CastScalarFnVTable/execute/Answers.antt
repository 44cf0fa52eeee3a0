use Rattle.std.proofs.lemmas.Bool.{eqb-true}
use Rattle.vortex_shipped.proofs.NotCalls.{OneBool}
use Rattle.vortex_shipped.proofs.CastCalls.{one_cast, cast_call}
use Rattle.vortex_shipped.proofs.cast.CastScalarFnVTable.execute.Goals as goal

pub execute_cast-requires : goal.execute_cast-requires
execute_cast-requires g c =
    let cs = g.A.ExecutionArgs.inputs c.args.args.now in
    let input = c.in_ok-input.input.now in
    (one_cast cs input (eqb-true _ _ c.requires.arity) c.requires.accepted c.in_ok-input.ensures.input).bool

pub returns : goal.returns
returns g c =
    let cs = g.A.ExecutionArgs.inputs c.args.args.now in
    let n = g.A.ExecutionArgs.rows c.args.args.now in
    let input = c.in_ok-input.input.now in
    let here = c.in_ok-input.ensures in
    let one : OneBool cs input = one_cast cs input (eqb-true _ _ c.requires.arity) c.requires.accepted here.input in
    cast_call cs input n c.execute_cast.result one here.count c.execute_cast.ensures.rows
