use Rattle.std.proofs.Common.{◌≡◌, map, take}
use Rattle.vortex_views.specs.Collected.{HaveRoom}
use Rattle.vortex_views.proofs.collect.collect_views.Given as goal

abbrev pub invariant-loop-value : goal.invariant-loop-value
invariant-loop-value g l =
    (l.builder ≡ map g.T.ByteString.bytes (take l.value-index l.values))
    × HaveRoom (map g.T.ByteString.bytes (take l.value-index l.values))
