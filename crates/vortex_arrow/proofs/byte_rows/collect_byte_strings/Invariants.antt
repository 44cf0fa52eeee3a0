use Rattle.std.proofs.Common.{◌≡◌, ◌<◌, ◌+◌, ℕ, map, take}
use Rattle.std.specs.List.{range_with_len}
use Rattle.vortex_views.specs.Collected.{HaveRoom}
use Rattle.vortex_columns.specs.ValidityView.{validity_of, is_valid_row}
use Rattle.vortex_arrow.specs.Columns.{row_bytes}
use Rattle.vortex_arrow.proofs.byte_rows.collect_byte_strings.Given as goal

-- the values so far, and that they lie where they should
abbrev pub invariant-loop-i : goal.invariant-loop-i
invariant-loop-i g l = record {
  values : l.builder
      ≡ map (row_bytes (g.R.ByteRows.item l.rows) (validity_of l.validity) l.offset)
      (take l.i (range_with_len 0 l.length));
  room : HaveRoom
      (map (row_bytes (g.R.ByteRows.item l.rows) (validity_of l.validity) l.offset)
      (take l.i (range_with_len 0 l.length)));
  lie : (k : ℕ) → k < l.i
      → g.R.ByteRows.lies l.rows (l.offset + k) (is_valid_row (validity_of l.validity) k);
}
