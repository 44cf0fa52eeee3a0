use Rattle.std.proofs.Common.{◌≡◌, ◌<◌, ℕ, pos, map, drop}
use Rattle.std.specs.Prelude.{slice_index_or}
use Rattle.vortex_types.specs.Values.{number}
use Rattle.vortex_columns.specs.ColumnView.{row, IsUnlessNull}
use Rattle.vortex_arrow.proofs.copying.write_cells.Given as goal

-- the integers so far, and what lies behind
abbrev pub invariant-loop-i : goal.invariant-loop-i
invariant-loop-i g l = record {
  integers : (k : ℕ) → k < l.i → IsUnlessNull (row l.column.rows k)
      (number (slice_index_or (map g.T.NativePType.number l.out) k (pos 0)));
  behind : drop l.i l.out ≡ drop l.i l.initial.out;
}
