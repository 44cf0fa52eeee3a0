use Rattle.std.proofs.Common.{◌≡◌, drop}
use Rattle.std.specs.Prelude.{IsUtf8}
use Rattle.vortex_sql_texts.specs.Fields.{fields}
use Rattle.vortex_sql_texts.proofs.fields.field_at.Given as goal

-- the fields of the rest are those behind the first so many
abbrev pub invariant-loop : goal.invariant-loop
invariant-loop l = record {
  left : drop l.counter (fields l.delimiter l.text) ≡ fields l.delimiter l.rest;
  utf8 : IsUtf8 l.rest;
}
