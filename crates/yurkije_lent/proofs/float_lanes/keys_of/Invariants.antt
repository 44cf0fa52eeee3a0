use Rattle.std.proofs.Common.{◌≡◌, ℕ, ◌<◌, length, map, get_or, pos}
use Rattle.yurkije_lent.proofs.float_lanes.keys_of.Given as goal

-- the integers so far are in their places
abbrev pub invariant-loop-j : goal.invariant-loop-j
invariant-loop-j g l = record {
  count : length l.keys ≡ 64;
  each : (k : ℕ) → k < l.j
      → get_or (map g.T.NativePType.number l.keys) k (pos 0)
      ≡ get_or (map g.T.FloatLane.key l.patterns) k (pos 0);
}
