use Rattle.std.proofs.Common.{◌≡◌, ◌++◌, map, take}
use Rattle.rowfn_batches.specs.Fields.{field_in}
use Rattle.rowfn_batches.proofs.parts.add_fields.Given as goal

-- the fields so far stand behind those that were there, and no row more
abbrev pub invariant-loop-field : goal.invariant-loop-field
invariant-loop-field l =
    (l.batch.fields ≡ l.initial.batch.fields ++ map field_in (take l.field-index l.fields))
    × (l.batch.spans ≡ l.initial.batch.spans)
