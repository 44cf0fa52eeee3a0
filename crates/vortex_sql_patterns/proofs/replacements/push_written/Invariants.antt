use Rattle.std.proofs.Common.{◌≡◌, ◌++◌, length}
use Rattle.std.specs.Prelude.{IsUtf8, chars, string_bytes}
use Rattle.vortex_sql_patterns.specs.Items.{captured}
use Rattle.vortex_sql_patterns.specs.Replacing.{written}
use Rattle.vortex_sql_patterns.proofs.replacements.push_written.Given as goal

-- what is written so far, before the rest
abbrev pub invariant-loop-item : goal.invariant-loop-item
invariant-loop-item l = record {
  left :
      string_bytes l.made ++ written (captured l.groups) (chars l.rest)
      ≡ string_bytes l.initial.made ++ written (captured l.groups) (chars l.replacement);
  utf8 : IsUtf8 l.rest;
}

abbrev pub decreases-loop-item : goal.decreases-loop-item
decreases-loop-item l = length (chars l.rest)
