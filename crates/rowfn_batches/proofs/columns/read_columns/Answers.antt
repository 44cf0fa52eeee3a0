use Rattle.std.proofs.Common.{map, sym, ◌∙◌, Some}
use Rattle.vortex_types.specs.TypeOf.{struct_fields}
use Rattle.rowfn_batches.specs.Fields.{field_in}
use Rattle.rowfn_batches.specs.Batches.{column_at}
use Rattle.rowfn_batches.proofs.FieldPlaces.{made_more}
use Rattle.rowfn_batches.proofs.columns.read_columns.Goals as goal

pub loop-place-preserved : goal.loop-place-preserved
loop-place-preserved c =
    let columns =
    column_at (struct_fields c.args.declared.now) c.args.kinds.now
    (map field_in c.args.fields.now) c.args.row_count in
    rw c.in_ok-push-in-Some.ensures.items
    (made_more Some columns c.loop-place.columns.items c.in-Some.column c.loop-place.place
    c.loop-place.invariant (sym c.in-Some.is ∙ c.in_ok-column.ensures))
