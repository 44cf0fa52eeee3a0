use Rattle.std.proofs.Common.{take}
use Rattle.std.specs.Prelude.{All, IfSome}
use Rattle.yurkije_columns.specs.Checking.{IsFlat}
use Rattle.yurkije_core.proofs.running.are_flat.Given as goal

-- the columns so far are flat, if they are read
abbrev pub invariant-loop-k : goal.invariant-loop-k
invariant-loop-k l = All (λ o. IfSome o IsFlat) (take l.k l.columns)
