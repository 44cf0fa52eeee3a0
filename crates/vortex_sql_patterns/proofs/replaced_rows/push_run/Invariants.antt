use Rattle.std.proofs.Common.{◌≤◌, length}
use Rattle.regex.specs.Strings.{matcher_pattern}
use Rattle.vortex_sql_calls.specs.Calls.{MadeRows}
use Rattle.vortex_sql_patterns.specs.Patterns.{IsPatternOf}
use Rattle.vortex_sql_patterns.specs.RegexpReplace.{in_case, replace_of}
use Rattle.vortex_sql_patterns.proofs.replaced_rows.push_run.Given as goal

-- the pattern that was compiled, and the texts of the rows so far
abbrev pub invariant-loop-i : goal.invariant-loop-i
invariant-loop-i g l = record {
  compiled : IsPatternOf (in_case l.flags.1 l.first.pattern.now) (matcher_pattern l.matcher);
  more : length l.initial.rows.items ≤ l.i;
  made : MadeRows replace_of (g.A.ExecutionArgs.inputs l.args) l.i l.rows.items;
}
