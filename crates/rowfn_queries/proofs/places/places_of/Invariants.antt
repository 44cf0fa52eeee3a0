use Rattle.std.proofs.Common.{◌≡◌, map}
use Rattle.std.specs.List.{range_with_len}
use Rattle.vortex_types.specs.FieldNames.{field_name}
use Rattle.vortex_types.specs.TypeOf.{struct_fields}
use Rattle.rowfn_queries.specs.DeclaredColumns.{declared_by}
use Rattle.rowfn_queries.specs.Places.{place_of}
use Rattle.rowfn_queries.proofs.places.places_of.Given as goal

-- the places of the columns so far
abbrev pub invariant-loop-k : goal.invariant-loop-k
invariant-loop-k l =
    l.places.items
    ≡ map (λ k. place_of (declared_by l.declared) l.header (field_name k (struct_fields l.columns)))
    (range_with_len 0 l.k)
