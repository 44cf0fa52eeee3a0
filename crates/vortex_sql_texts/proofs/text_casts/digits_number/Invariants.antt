use Rattle.std.proofs.Common.{◌≡◌, ◌<◌, drop}
use Rattle.vortex_sql_texts.specs.TextCasts.{digits_after}
use Rattle.vortex_sql_texts.proofs.text_casts.digits_number.Given as goal

-- the digits so far write the number
abbrev pub invariant-loop-digit : goal.invariant-loop-digit
invariant-loop-digit l = record {
  same : digits_after 0 l.digits ≡ digits_after l.number (drop l.digit-index l.digits);
  bounded : l.number < 200000000000000000000;
}
