use Rattle.std.proofs.Common.{◌≡◌, ◌+◌, ◌++◌}
use Rattle.std.specs.List.{range_with_len}
use Rattle.std.specs.Vec.{vec_len, vec_capacity}
use Rattle.vortex_columns.proofs.column.taken.push_range.Given as goal

-- the indices so far, and the capacity for the rest
abbrev pub invariant-loop-i : goal.invariant-loop-i
invariant-loop-i l =
    (l.places.items ≡ l.initial.places.items ++ range_with_len l.from l.i)
    × (vec_len l.places ≡ vec_len l.initial.places + l.i)
    × (vec_capacity l.places ≡ vec_capacity l.initial.places)
