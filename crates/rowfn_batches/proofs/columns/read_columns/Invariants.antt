use Rattle.std.proofs.Common.{map}
use Rattle.vortex_types.specs.TypeOf.{struct_fields}
use Rattle.rowfn_batches.specs.Fields.{field_in}
use Rattle.rowfn_batches.specs.Batches.{AreColumns}
use Rattle.rowfn_batches.proofs.columns.read_columns.Given as goal

-- the columns so far
abbrev pub invariant-loop-place : goal.invariant-loop-place
invariant-loop-place l =
    AreColumns (struct_fields l.declared) l.kinds
    (map field_in l.fields) l.row_count l.place l.columns.items
