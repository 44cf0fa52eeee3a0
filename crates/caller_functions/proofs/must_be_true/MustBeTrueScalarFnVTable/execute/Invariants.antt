use Rattle.std.proofs.Common.{◌≢◌, ℕ, ◌<◌, Some, false}
use Rattle.vortex_types.specs.Values.{truth_of}
use Rattle.vortex_columns.specs.ColumnView.{row}
use Rattle.caller_functions.proofs.must_be_true.MustBeTrueScalarFnVTable.execute.Given as goal

-- no row so far is false
abbrev pub invariant-loop-i : goal.invariant-loop-i
invariant-loop-i g l = (k : ℕ) → k < l.i → truth_of (row l.input.rows k) ≢ Some false
