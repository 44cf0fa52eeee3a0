use Rattle.std.proofs.Common.{map}
use Rattle.vortex_sql_calls.specs.Columns.{AreNumbers}
use Rattle.vortex_sql_calls.proofs.column.int_values.Given as goal

-- the numbers of the cells so far
abbrev pub invariant-loop-i : goal.invariant-loop-i
invariant-loop-i g l = AreNumbers l.cells l.i (map g.T.NativePType.number l.values.items)
