use Rattle.std.proofs.Common.{◌≡◌, drop}
use Rattle.std.specs.List.{find}
use Rattle.vortex_expressions.specs.Meeting.{has_both}
use Rattle.vortex_expressions.proofs.meeting.first_with_both.Given as goal

-- none so far
abbrev pub invariant-loop-ptype : goal.invariant-loop-ptype
invariant-loop-ptype l =
    find (has_both l.first l.second) l.types
    ≡ find (has_both l.first l.second) (drop l.ptype-index l.types)
