use Rattle.std.proofs.Common.{◌≡◌, ◌+◌, ◌≤◌, length}
use Rattle.std.specs.Prelude.{IsUtf8}
use Rattle.vortex_sql_texts.specs.Fields.{fields}
use Rattle.vortex_sql_texts.proofs.fields.count_fields.Given as goal

-- the fields so far, and those of the rest
abbrev pub invariant-loop-after : goal.invariant-loop-after
invariant-loop-after l = record {
  counted :
      length (fields l.delimiter l.text) + 1 ≡ l.count + length (fields l.delimiter l.rest);
  bounded : l.count + length l.rest ≤ length l.text + 1;
  utf8 : IsUtf8 l.rest;
}

abbrev pub decreases-loop-after : goal.decreases-loop-after
decreases-loop-after l = length l.rest
