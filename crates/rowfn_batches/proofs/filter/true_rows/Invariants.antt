use Rattle.std.proofs.Common.{◌≡◌}
use Rattle.rowfn_batches.specs.Filtering.{true_rows}
use Rattle.rowfn_batches.proofs.filter.true_rows.Given as goal

-- the rows so far in which the column is true
abbrev pub invariant-loop-row : goal.invariant-loop-row
invariant-loop-row l = l.rows.items ≡ true_rows l.column l.row
