use Rattle.std.proofs.Common.{◌≤◌, ◌-◌, length}
use Rattle.vortex_sql_calls.specs.Calls.{MadeRows}
use Rattle.vortex_sql_patterns.specs.RegexpReplace.{replace_of}
use Rattle.vortex_sql_patterns.proofs.replaced_rows.replaced_texts.Given as goal

-- the texts of the rows so far
abbrev pub invariant-rows : goal.invariant-rows
invariant-rows g l = record {
  most : length l.rows.items ≤ g.A.ExecutionArgs.rows l.args;
  made : MadeRows replace_of (g.A.ExecutionArgs.inputs l.args) (length l.rows.items) l.rows.items;
}

abbrev pub decreases-rows : goal.decreases-rows
decreases-rows g l = g.A.ExecutionArgs.rows l.args - length l.rows.items
