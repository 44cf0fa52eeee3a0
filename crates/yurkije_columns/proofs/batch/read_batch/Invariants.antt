use Rattle.std.proofs.Common.{◌≡◌, map, take, length}
use Rattle.std.specs.Vec.{vec_len, vec_capacity}
use Rattle.vortex_types.specs.TypeOf.{struct_fields}
use Rattle.yurkije_columns.specs.Batches.{FirstServe, batch_column}
use Rattle.yurkije_columns.proofs.batch.read_batch.Given as goal

-- the columns so far serve and are read, and there is a place for the others
abbrev pub invariant-loop-k : goal.invariant-loop-k
invariant-loop-k l = record {
  count : vec_len l.read ≡ l.k;
  place : vec_capacity l.read ≡ length l.columns;
  serve : FirstServe (struct_fields l.scope) l.kinds l.rows l.columns l.k;
  columns : l.read.items ≡ map (batch_column l.rows) (take l.k l.columns);
}
