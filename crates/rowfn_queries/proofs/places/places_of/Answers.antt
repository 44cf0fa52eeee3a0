use Rattle.std.proofs.Common.{◌∙◌, ap}
use Rattle.vortex_types.specs.FieldNames.{field_name}
use Rattle.vortex_types.specs.TypeOf.{struct_fields}
use Rattle.rowfn_queries.specs.DeclaredColumns.{declared_by}
use Rattle.rowfn_queries.specs.Places.{place_of}
use Rattle.rowfn_queries.proofs.Placed.{one_more}
use Rattle.rowfn_queries.proofs.places.places_of.Goals as goal

pub loop-k-preserved : goal.loop-k-preserved
loop-k-preserved c =
    let d = declared_by c.args.declared.now in
    let fields = struct_fields c.args.columns.now in
    c.in_ok-push.ensures.items
    ∙ one_more (λ k. place_of d c.args.header (field_name k fields)) c.loop-k.places.items
    c.place_of.result c.loop-k.k c.loop-k.invariant
    (c.place_of.ensures ∙ ap (place_of d c.args.header) c.name.ensures)
