use Rattle.std.proofs.Common.{◌≡◌, map, take, string_bytes}
use Rattle.vortex_types.specs.TypeOf.{type_of}
use Rattle.vortex_types.proofs.dtype.StructFields.of.Given as goal

abbrev pub invariant-loop-field : goal.invariant-loop-field
invariant-loop-field l =
    (map string_bytes l.names.items ≡ map (λ f. f.0.now) (take l.field-index l.fields))
    × (map type_of l.types.items ≡ map (λ f. type_of f.1) (take l.field-index l.fields))
