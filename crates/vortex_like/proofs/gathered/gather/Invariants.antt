use Rattle.std.proofs.Common.{◌-◌}
use Rattle.vortex_like.specs.Gathered.{AreGathered}
use Rattle.vortex_like.specs.TextRows.{texts_of}
use Rattle.vortex_like.proofs.gathered.gather.Given as goal

-- the texts so far
abbrev pub invariant-loop-end : goal.invariant-loop-end
invariant-loop-end l =
    AreGathered (texts_of l.texts) l.first (l.end - l.first) l.bytes.items l.places.items
