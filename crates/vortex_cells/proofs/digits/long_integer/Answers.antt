use Rattle.vortex_cells.proofs.IntegerTexts.{integer_text}
use Rattle.vortex_cells.proofs.digits.long_integer.Goals as goal

pub returns-in-Ok : goal.returns-in-Ok
returns-in-Ok c = rw (← c.in-Ok.ensures.cases.0) c.read_integer.ensures

pub returns-in-Err : goal.returns-in-Err
returns-in-Err c = λ z e f. c.in-Err.ensures.cases.0 (integer_text c.args.bytes.now z e)
