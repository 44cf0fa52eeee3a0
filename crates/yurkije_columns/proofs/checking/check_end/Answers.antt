use Rattle.yurkije_columns.proofs.FlatColumns.{long_enough, tells_end}
use Rattle.yurkije_columns.proofs.checking.check_end.Goals as goal

pub returns : goal.returns
returns c = long_enough c.args.column.now c.requires c.in-Ok.ensures.answer.0

pub returns-in-Err : goal.returns-in-Err
returns-in-Err c = tells_end c.args.column.now c.in-Err.error c.requires c.in-Err.ensures.answer
