use Rattle.std.proofs.Common.{◌≡◌, length}
use Rattle.std.specs.Prelude.{IsUtf8, chars}
use Rattle.vortex_sql_texts.specs.Trims.{has}
use Rattle.vortex_sql_texts.proofs.trims.has_char.Given as goal

-- none so far
abbrev pub invariant-loop-first : goal.invariant-loop-first
invariant-loop-first l = record {
  same : has (chars l.text) l.c ≡ has (chars l.rest) l.c;
  utf8 : IsUtf8 l.rest;
}

abbrev pub decreases-loop-first : goal.decreases-loop-first
decreases-loop-first l = length (chars l.rest)
