use Rattle.std.proofs.Common.{◌≡◌, ◌≤◌, ◌+◌, ◌-◌, length}
use Rattle.regex.specs.Strings.{matcher_pattern}
use Rattle.vortex_sql_patterns.specs.PatternFunctions.{count_in, count_on, span_at}
use Rattle.vortex_sql_patterns.proofs.searches.count_matches.Given as goal

-- the matches so far and those that begin at `start` or behind it are all
abbrev pub invariant-loop-found : goal.invariant-loop-found
invariant-loop-found l = record {
  same : matcher_pattern l.matcher ≡ matcher_pattern l.initial.matcher;
  few : l.count ≤ l.start;
  all : l.count + count_on (span_at (matcher_pattern l.initial.matcher) l.text)
      (length l.text + 1 - l.start) (span_at (matcher_pattern l.initial.matcher) l.text l.start)
      ≡ count_in l.text (span_at (matcher_pattern l.initial.matcher) l.text);
}

abbrev pub decreases-loop-found : goal.decreases-loop-found
decreases-loop-found l = length l.text + 1 - l.start
