use Rattle.std.proofs.Common.{◌≤◌, length}
use Rattle.regex.specs.Strings.{matcher_pattern}
use Rattle.vortex_sql_calls.specs.Calls.{AnsweredRows}
use Rattle.vortex_sql_patterns.specs.PatternFunctions.{IsReadBy}
use Rattle.vortex_sql_patterns.specs.Lookups.{function_of, lookup_of}
use Rattle.vortex_sql_patterns.proofs.matched.push_run.Given as goal

-- the pattern that was compiled, and the results of the rows so far
abbrev pub invariant-loop-i : goal.invariant-loop-i
invariant-loop-i g l = record {
  compiled : IsReadBy (function_of l.lookup) l.pattern (matcher_pattern l.matcher);
  more : length l.initial.rows.items ≤ l.i;
  answered : AnsweredRows (lookup_of l.lookup) (g.A.ExecutionArgs.inputs l.args) l.i
      l.rows.items;
}
