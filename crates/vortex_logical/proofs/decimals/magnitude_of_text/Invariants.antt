use Rattle.std.proofs.Common.{◌≡◌, ◌≤◌, ◌<◌, drop, false}
use Rattle.vortex_logical.specs.DecimalTexts.{value_from}
use Rattle.vortex_logical.proofs.decimals.magnitude_of_text.Given as goal

abbrev pub invariant-loop-i : goal.invariant-loop-i
invariant-loop-i l = record {
  places : l.left ≤ 18;
  small : l.number < l.limit;
  same : value_from l.seen l.left l.number (drop l.i l.text) ≡ value_from false l.fn.digits.scale 0 l.text;
}
