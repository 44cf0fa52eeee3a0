use Rattle.vortex_program.proofs.CodedRows.{HaveCodesSo}
use Rattle.vortex_program.proofs.coded.rows_after.Given as goal

-- the rows so far have codes; the first number is that of a decided row
abbrev pub invariant-loop-i : goal.invariant-loop-i
invariant-loop-i l = HaveCodesSo l.wanted l.column l.first l.numbers.items l.codes.items l.i
