use Rattle.std.proofs.Common.{◌≡◌, ◌++◌, length}
use Rattle.std.specs.Prelude.{IsUtf8, string_bytes}
use Rattle.vortex_sql_texts.specs.Fields.{fields, joined}
use Rattle.vortex_sql_texts.proofs.replaced.replaced.Given as goal

-- what is made so far, before the rest
abbrev pub invariant-loop-field : goal.invariant-loop-field
invariant-loop-field l = record {
  made :
      joined l.other (fields l.part l.text)
      ≡ string_bytes l.made ++ joined l.other (fields l.part l.rest);
  utf8 : IsUtf8 l.rest;
}

abbrev pub decreases-loop-field : goal.decreases-loop-field
decreases-loop-field l = length l.rest
