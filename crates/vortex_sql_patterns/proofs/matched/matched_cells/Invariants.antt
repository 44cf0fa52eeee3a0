use Rattle.std.proofs.Common.{◌≤◌, ◌-◌, length}
use Rattle.vortex_sql_calls.specs.Calls.{AnsweredRows}
use Rattle.vortex_sql_patterns.specs.Lookups.{lookup_of}
use Rattle.vortex_sql_patterns.proofs.matched.matched_cells.Given as goal

-- the results of the rows so far
abbrev pub invariant-rows : goal.invariant-rows
invariant-rows g l = record {
  most : length l.rows.items ≤ g.A.ExecutionArgs.rows l.args;
  answered : AnsweredRows (lookup_of l.lookup) (g.A.ExecutionArgs.inputs l.args)
      (length l.rows.items) l.rows.items;
}

abbrev pub decreases-rows : goal.decreases-rows
decreases-rows g l = g.A.ExecutionArgs.rows l.args - length l.rows.items
