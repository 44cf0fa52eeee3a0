use Rattle.std.proofs.Common.{◌≡◌, ◌≤◌, ◌<◌, ◌+◌, ◌^◌}
use Rattle.vortex_float_texts.proofs.leading.after_fifteen.Given as goal

abbrev pub invariant-loop-place : goal.invariant-loop-place
invariant-loop-place l = record {
  limit : l.limit ≡ 10 ^ (15 + l.place);
  past : 0 < l.place → 10 ^ (14 + l.place) ≤ l.number;
}
