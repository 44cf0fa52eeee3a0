use Rattle.std.proofs.Common.{◌+◌, ◌*◌, ap, sym, ◌∙◌, map}
use Rattle.std.proofs.lemmas.Nat.{mod-mul-add}
use Rattle.vortex_types.specs.LogicalTypes.{field_count}
use Rattle.vortex_types.specs.TypeOf.{struct_fields}
use Rattle.rowfn_batches.specs.Fields.{field_in}
use Rattle.rowfn_batches.specs.Batches.{field_at, fits_column}
use Rattle.rowfn_batches.proofs.FieldPlaces.{field_is}
use Rattle.rowfn_batches.proofs.columns.fits_in.Goals as goal

pub returns : goal.returns
returns c =
    let ds = struct_fields c.args.declared.now in
    let ks = c.args.kinds.now in
    let fields = c.args.fields.now in
    let row = c.args.row in
    let column = c.args.column in
    let counted = c.len.ensures in
    c.fits_column.ensures
    ∙ ap (fits_column ds ks column)
    (field_is fields (row * c.len.result + column) _ (rw counted c.requires.place))
    ∙ ap (λ n. fits_column ds ks column (field_at (map field_in fields) (row * n + column))) counted
    ∙ ap (λ k. fits_column ds ks k (field_at (map field_in fields) (row * field_count ds + column)))
    (sym (mod-mul-add row (field_count ds) column c.requires.column))
