use Rattle.std.proofs.Common.{◌≡◌, length}
use Rattle.std.specs.Prelude.{IsUtf8, chars}
use Rattle.vortex_sql_texts.specs.Trims.{members, skip}
use Rattle.vortex_sql_texts.proofs.trims.without_start.Given as goal

-- what was passed over is left out
abbrev pub invariant-loop-c : goal.invariant-loop-c
invariant-loop-c l = record {
  same : skip (members l.out) (chars l.text) ≡ skip (members l.out) (chars l.rest);
  utf8 : IsUtf8 l.rest;
}

abbrev pub decreases-loop-c : goal.decreases-loop-c
decreases-loop-c l = length (chars l.rest)
