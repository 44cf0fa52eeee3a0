use Rattle.std.proofs.Common.{◌≡◌, ◌≤◌}
use Rattle.vortex_float_texts.specs.FloatTexts.{first_from}
use Rattle.vortex_float_texts.proofs.texts.first_from.Given as goal

abbrev pub invariant-loop-place : goal.invariant-loop-place
invariant-loop-place l = record {
  few : l.place ≤ 18;
  same : first_from l.fn.width l.fn.number l.fn.halves l.fn.power l.fn.places ≡ first_from l.fn.width l.fn.number l.fn.halves l.fn.power l.place;
}

abbrev pub decreases-loop-place : goal.decreases-loop-place
decreases-loop-place l = l.place
