use Rattle.std.proofs.Common.{◌≡◌}
use Rattle.vortex_columns.specs.TrueRows.{true_among}
use Rattle.vortex_columns.proofs.column.Column.true_rows.Given as goal

abbrev pub invariant-loop-i : goal.invariant-loop-i
invariant-loop-i l = l.codes.items ≡ true_among l.i l.self.rows
