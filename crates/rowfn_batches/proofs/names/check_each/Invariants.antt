use Rattle.std.proofs.Common.{ℕ, ◌<◌}
use Rattle.rowfn_batches.specs.Names.{names_of, StandsLast}
use Rattle.rowfn_batches.proofs.names.check_each.Given as goal

-- the names so far stand nowhere behind their places
abbrev pub invariant-loop-place : goal.invariant-loop-place
invariant-loop-place l = (p : ℕ) → p < l.place → StandsLast (names_of l.answers) p
