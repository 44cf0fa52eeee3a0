use Rattle.vortex_types.specs.TypeOf.{struct_fields}
use Rattle.yurkije_columns.specs.Batches.{FirstServe}
use Rattle.yurkije_columns.proofs.checking.check_batch.Given as goal

-- the columns so far serve
abbrev pub invariant-loop-k : goal.invariant-loop-k
invariant-loop-k l = FirstServe (struct_fields l.scope) l.kinds l.rows l.columns l.k
