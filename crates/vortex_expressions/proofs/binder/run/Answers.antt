use Rattle.vortex_types.specs.TypeOf.{struct_fields}
use Rattle.vortex_expressions.specs.Calls.{names_in}
use Rattle.vortex_expressions.proofs.Walking.{goes_on, stops, ends}
use Rattle.vortex_expressions.proofs.binder.run.Goals as goal

pub returns-in-Err : goal.returns-in-Err
returns-in-Err c =
    stops (names_in (struct_fields c.args.scope.now) c.args.kinds.now) c.args.steps.now
    c.loop-number.number _ _ _ c.loop-number-test.true c.in-Err.ensures c.loop-number.invariant

pub loop-number-preserved : goal.loop-number-preserved
loop-number-preserved c =
    goes_on (names_in (struct_fields c.args.scope.now) c.args.kinds.now) c.args.steps.now
    c.loop-number.number _ _ _ c.loop-number-test.true c.in_default.ensures
    c.loop-number.invariant

pub returns : goal.returns
returns c =
    ends (names_in (struct_fields c.args.scope.now) c.args.kinds.now) c.args.steps.now
    c.loop-number.number _ c.loop-number-test.false c.loop-number.invariant
