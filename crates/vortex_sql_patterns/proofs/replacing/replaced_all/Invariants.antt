use Rattle.std.proofs.Common.{◌≡◌, ◌≤◌, ◌+◌, ◌-◌, ◌++◌, true, length}
use Rattle.std.specs.Prelude.{IsCharBoundary, chars, string_bytes}
use Rattle.regex.specs.Strings.{matcher_pattern}
use Rattle.vortex_sql_patterns.specs.Replacing.{found_at, group_in, replaced, replaced_on, written}
use Rattle.vortex_sql_patterns.proofs.replacing.replaced_all.Given as goal

-- what is made so far, and what follows from `at` on, where matches begin at `start` or behind it
abbrev pub invariant-matches : goal.invariant-matches
invariant-matches l =
    let re = matcher_pattern l.initial.matcher in
    let bs = l.text in
    record {
      same : matcher_pattern l.matcher ≡ re;
      cut : IsCharBoundary bs l.at;
      order : l.at ≤ l.start;
      left :
          string_bytes l.made
          ++ replaced_on (λ f. written (group_in bs f) (chars l.replacement)) bs (found_at re bs)
          (length bs + 1 - l.start) l.at (found_at re bs l.start)
          ≡ replaced true bs l.replacement (found_at re bs);
    }

abbrev pub decreases-matches : goal.decreases-matches
decreases-matches l = length l.text + 1 - l.start
