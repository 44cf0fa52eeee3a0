use Rattle.std.proofs.Common.{ℕ, ◌<◌, ◌≢◌, [], get_or}
use Rattle.rowfn_batches.specs.Names.{names_of}
use Rattle.rowfn_batches.proofs.names.repeats_later.Given as goal

-- no answer so far has the name
abbrev pub invariant-loop-other : goal.invariant-loop-other
invariant-loop-other l =
    (q : ℕ) → l.place < q → q < l.other
    → get_or (names_of l.answers) l.place [] ≢ get_or (names_of l.answers) q []
