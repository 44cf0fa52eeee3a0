use Rattle.vortex_kernels.proofs.BoundedRows.{constants_between}
use Rattle.vortex_kernels.proofs.between.execute_between.Goals as goal

pub returns-in-Some-Some-Some-clause-rows : goal.returns-in-Some-Some-Some-clause-rows
returns-in-Some-Some-Some-clause-rows c =
    let here = c.in-Some-Some-Some in
    constants_between c.args.options.now c.args.array.now c.args.lower.now c.args.upper.now
    here.value.now here.low.now here.high.now c.between_scalars-answer.result c.len.result
    c.constant.result c.requires.lower c.requires.upper c.len.ensures here.ensures here.ensures'
    here.ensures'' c.between_scalars-answer.ensures c.constant.ensures
