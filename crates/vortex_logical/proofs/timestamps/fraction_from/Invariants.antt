use Rattle.std.proofs.Common.{◌≡◌, ◌≤◌, ◌*◌, ◌^◌, ◌+◌, drop}
use Rattle.vortex_logical.specs.TimestampTexts.{fraction_from}
use Rattle.vortex_logical.proofs.timestamps.fraction_from.Given as goal

abbrev pub invariant-loop-i : goal.invariant-loop-i
invariant-loop-i l = record {
  places : l.left ≤ 6;
  few : l.number ≤ 1000000;
  small : l.number * 10 ^ l.left + 10 ^ l.left ≤ 1000000;
  same : fraction_from l.left l.number (drop l.i l.text) ≡ fraction_from 6 0 l.text;
}
