use Rattle.std.proofs.Common.{◌≡◌, take}
use Rattle.vortex_types.specs.TypeOf.{fields_view}
use Rattle.vortex_types.proofs.dtype.StructFields.copy.Given as goal

abbrev pub invariant-loop-field :
    goal.invariant-loop-field
invariant-loop-field l =
    fields_view l.fields.items ≡ fields_view (take l.field-index l.field-items)
