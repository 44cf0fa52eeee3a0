use Rattle.std.proofs.Common.{◌≡◌, ◌≤◌, ◌*◌, ◌^◌, ◌+◌, drop}
use Rattle.vortex_sql_date_formats.specs.ReadDigits.{digits_from}
use Rattle.vortex_sql_date_formats.proofs.digits.digits_from.Given as goal

abbrev pub invariant-loop-i : goal.invariant-loop-i
invariant-loop-i l = record {
  places : l.left ≤ l.width;
  few : l.number ≤ 1000000;
  small : l.number * 10 ^ l.left + 10 ^ l.left ≤ 1000000;
  same : digits_from l.left l.number (drop l.i l.text) ≡ digits_from l.width 0 l.text;
}
