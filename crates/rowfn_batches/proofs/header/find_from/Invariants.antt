use Rattle.std.proofs.Common.{ℕ, ◌≤◌, ◌<◌, ◌≢◌, Some}
use Rattle.csv.specs.Records.{fields_of, field_at}
use Rattle.rowfn_batches.proofs.header.find_from.Given as goal

-- no field so far is the name
abbrev pub invariant-loop-i : goal.invariant-loop-i
invariant-loop-i l =
    (q : ℕ) → l.start ≤ q → q < l.i → field_at (fields_of l.header) q ≢ Some l.name
