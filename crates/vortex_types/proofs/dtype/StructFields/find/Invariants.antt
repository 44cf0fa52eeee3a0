use Rattle.std.proofs.Common.{◌≡◌, drop}
use Rattle.vortex_types.specs.LogicalTypes.{find_field}
use Rattle.vortex_types.specs.TypeOf.{fields_view}
use Rattle.vortex_types.proofs.FieldSearch.{after_some}
use Rattle.vortex_types.proofs.dtype.StructFields.find.Given as goal

-- the match in the whole list is after the fields that were passed
abbrev pub invariant-loop-i : goal.invariant-loop-i
invariant-loop-i l =
    find_field l.name (fields_view l.field-items)
    ≡ after_some l.i (find_field l.name (fields_view (drop l.i l.field-items)))
