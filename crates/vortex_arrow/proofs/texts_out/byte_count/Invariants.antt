use Rattle.std.proofs.Common.{◌≡◌, length, take}
use Rattle.vortex_arrow.specs.Written.{joined}
use Rattle.vortex_arrow.proofs.texts_out.byte_count.Given as goal

abbrev pub invariant-loop-i : goal.invariant-loop-i
invariant-loop-i l = l.count ≡ length (joined (take l.i l.column.rows))
