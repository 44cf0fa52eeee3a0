use Rattle.std.proofs.Common.{◌≡◌, drop}
use Rattle.vortex_functions.specs.Arrays.{other_rows}
use Rattle.vortex_arrays.proofs.call.first_other_len.Given as goal

-- the arrays so far have the row count
abbrev pub invariant-loop-child : goal.invariant-loop-child
invariant-loop-child g l =
    other_rows l.len l.children ≡ other_rows l.len (drop l.child-index l.children)
