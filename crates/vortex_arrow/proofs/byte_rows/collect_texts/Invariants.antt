use Rattle.std.proofs.Common.{◌≡◌, ◌<◌, ◌+◌, ℕ, map, true}
use Rattle.std.specs.Prelude.{IsUtf8}
use Rattle.std.specs.Vec.{vec_len, vec_capacity}
use Rattle.vortex_columns.specs.ValidityView.{validity_of, is_valid_row}
use Rattle.vortex_arrow.specs.Columns.{values_from}
use Rattle.vortex_arrow.proofs.byte_rows.collect_texts.Given as goal

-- the texts so far, that they lie where they should and are texts, and the place for the others
abbrev pub invariant-loop-i : goal.invariant-loop-i
invariant-loop-i g l = record {
  count : vec_len l.texts ≡ l.i;
  place : vec_capacity l.texts ≡ l.length;
  values : map (λ t. t.now) l.texts.items
      ≡ values_from (g.R.ByteRows.item l.rows) (validity_of l.validity) l.offset l.i;
  good : (k : ℕ) → k < l.i
      → g.R.ByteRows.lies l.rows (l.offset + k) (is_valid_row (validity_of l.validity) k)
      × (is_valid_row (validity_of l.validity) k ≡ true
      → IsUtf8 (g.R.ByteRows.item l.rows (l.offset + k)));
}
