use Rattle.std.proofs.Common.{map}
use Rattle.vortex_types.specs.TypeOf.{struct_fields}
use Rattle.rowfn_batches.specs.Fields.{field_in}
use Rattle.rowfn_batches.specs.Batches.{IsLeftmostOf}
use Rattle.rowfn_batches.proofs.columns.leftmost_misfit.Given as goal

-- the leftmost of the columns so far
abbrev pub invariant-loop-other : goal.invariant-loop-other
invariant-loop-other l =
    IsLeftmostOf (struct_fields l.declared) l.kinds (map field_in l.fields) l.places l.row l.other
    l.leftmost
