use Rattle.std.proofs.Common.{◌≡◌, map, take}
use Rattle.vortex_types.specs.TypeOf.{type_of}
use Rattle.vortex_columns.proofs.column.constructors.types_of.Given as goal

abbrev pub invariant-loop-column : goal.invariant-loop-column
invariant-loop-column l =
    map type_of l.types.items ≡ map (λ c. c.dtype) (take l.column-index l.column-items)
