use Rattle.std.proofs.Common.{string_bytes}
use Rattle.vortex_functions.proofs.WrittenTexts.{Writes, frames_cost}
use Rattle.vortex_functions.proofs.expression.text.BoundExpression+C.sql_text.Given as goal

abbrev pub invariant-loop-last : goal.invariant-loop-last
invariant-loop-last g l = Writes l.self (string_bytes l.out) l.above.items

abbrev pub decreases-loop-last : goal.decreases-loop-last
decreases-loop-last g l = frames_cost l.above.items
