use Rattle.std.proofs.lemmas.Bool.{eqb-true}
use Rattle.vortex_shipped.proofs.NotCalls.{OneBool, one_bool, not_call}
use Rattle.vortex_shipped.proofs.not.NotScalarFnVTable.execute.Goals as goal

pub execute_not-requires : goal.execute_not-requires
execute_not-requires g c =
    let cs = g.A.ExecutionArgs.inputs c.args.args.now in
    let input = c.in_ok-input.input.now in
    (one_bool cs input (eqb-true _ _ c.requires.arity) c.requires.accepted c.in_ok-input.ensures.input).bool

pub returns : goal.returns
returns g c =
    let cs = g.A.ExecutionArgs.inputs c.args.args.now in
    let n = g.A.ExecutionArgs.rows c.args.args.now in
    let input = c.in_ok-input.input.now in
    let here = c.in_ok-input.ensures in
    let one : OneBool cs input = one_bool cs input (eqb-true _ _ c.requires.arity) c.requires.accepted here.input in
    not_call cs input n c.execute_not.result one here.count c.execute_not.ensures.rows
