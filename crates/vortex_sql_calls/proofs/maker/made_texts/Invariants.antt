use Rattle.vortex_sql_calls.specs.Calls.{MadeRows}
use Rattle.vortex_sql_rows.specs.Row.{row_gives}
use Rattle.vortex_sql_calls.proofs.maker.made_texts.Given as goal

-- the texts of the rows so far
abbrev pub invariant-loop-i : goal.invariant-loop-i
invariant-loop-i g l =
    MadeRows (row_gives (g.F.TextFn.about l.function) l.ptype) (g.A.ExecutionArgs.inputs l.args)
    l.i l.rows.items
