use Rattle.vortex_sql_calls.specs.Calls.{AnsweredRows}
use Rattle.vortex_sql_rows.specs.Row.{row_gives}
use Rattle.vortex_sql_calls.proofs.call.answered_cells.Given as goal

-- the answers of the rows so far
abbrev pub invariant-loop-i : goal.invariant-loop-i
invariant-loop-i g l =
    AnsweredRows (row_gives (g.F.RowFn.about l.function) l.ptype) (g.A.ExecutionArgs.inputs l.args)
    l.i l.rows.items
