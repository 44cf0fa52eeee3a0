use Rattle.std.proofs.Common.{◌≡◌, length, false}
use Rattle.std.specs.Vec.{vec_capacity}
use Rattle.vortex_sql_float_columns.specs.KeyedRows.{AreKeys}
use Rattle.vortex_sql_float_columns.proofs.keys.rows_by.Given as goal

-- the results so far, unless a row may fault, and the capacity for the rest
abbrev pub invariant-loop-i : goal.invariant-loop-i
invariant-loop-i g l = record {
  capacity : vec_capacity l.keys ≡ l.len;
  count : length l.keys.items ≡ l.i;
  keys : l.may_fault ≡ false
      → AreKeys g.O.Operation.operator (g.L.Keys.key_at l.left) (g.R.Keys.key_at l.right) l.i l.keys.items;
}
