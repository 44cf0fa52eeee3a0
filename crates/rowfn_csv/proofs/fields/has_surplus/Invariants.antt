use Rattle.std.proofs.Common.{◌≡◌}
use Rattle.csv.specs.Records.{fields_of}
use Rattle.rowfn_csv.specs.Records.{has_surplus}
use Rattle.rowfn_csv.proofs.fields.has_surplus.Given as goal

-- the fields so far are empty
abbrev pub invariant-loop-index : goal.invariant-loop-index
invariant-loop-index l =
    has_surplus (fields_of l.fields) l.index ≡ has_surplus (fields_of l.fields) l.width
