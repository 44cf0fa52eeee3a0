use Rattle.csv.specs.Records.{fields_of}
use Rattle.vortex_types.specs.TypeOf.{struct_fields}
use Rattle.rowfn_batches.specs.Layouts.{FirstStandAt}
use Rattle.rowfn_batches.proofs.header.places_of.Given as goal

-- the columns so far stand where the places say
abbrev pub invariant-loop-k : goal.invariant-loop-k
invariant-loop-k l =
    FirstStandAt (fields_of l.header) (struct_fields l.declared) l.said l.k l.places.items
