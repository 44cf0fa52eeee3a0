use Rattle.std.proofs.Common.{◌≡◌}
use Rattle.std.specs.List.{range_with_len}
use Rattle.std.specs.Vec.{vec_len, vec_capacity}
use Rattle.vortex_program.proofs.rows.row_numbers.Given as goal

-- the numbers so far, and the space for the rest
abbrev pub invariant-loop-i : goal.invariant-loop-i
invariant-loop-i l =
    (l.numbers.items ≡ range_with_len l.first l.i)
    × (vec_len l.numbers ≡ l.i)
    × (vec_capacity l.numbers ≡ vec_capacity l.initial.numbers)
