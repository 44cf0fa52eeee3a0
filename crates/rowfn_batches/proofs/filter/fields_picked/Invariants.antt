use Rattle.std.proofs.Common.{◌≡◌, map, take}
use Rattle.rowfn_batches.specs.Fields.{field_in}
use Rattle.rowfn_batches.specs.Filtering.{fields_picked}
use Rattle.rowfn_batches.proofs.filter.fields_picked.Given as goal

-- the fields of the rows so far
abbrev pub invariant-loop-row : goal.invariant-loop-row
invariant-loop-row l =
    map field_in l.taken.items
    ≡ fields_picked (map field_in l.fields) l.width (take l.row-index l.rows)
