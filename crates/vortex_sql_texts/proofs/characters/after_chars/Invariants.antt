use Rattle.std.proofs.Common.{◌≡◌, drop}
use Rattle.std.specs.Prelude.{IsUtf8, chars}
use Rattle.vortex_sql_texts.proofs.characters.after_chars.Given as goal

-- the characters after the first so many
abbrev pub invariant-loop : goal.invariant-loop
invariant-loop l = record {
  left : drop l.counter (chars l.text) ≡ chars l.rest;
  utf8 : IsUtf8 l.rest;
}
