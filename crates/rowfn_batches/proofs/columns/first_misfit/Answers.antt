use Rattle.std.proofs.Common.{below_more, map, sym, ap, ◌∙◌, ◌%◌, arith}
use Rattle.std.proofs.lemmas.List.{length-map}
use Rattle.vortex_types.specs.TypeOf.{struct_fields}
use Rattle.rowfn_batches.specs.Fields.{field_in}
use Rattle.rowfn_batches.specs.Batches.{field_at, fits_column}
use Rattle.rowfn_batches.proofs.FieldPlaces.{field_is}
use Rattle.rowfn_batches.proofs.columns.first_misfit.Goals as goal

pub returns-then-not-fits_column : goal.returns-then-not-fits_column
returns-then-not-fits_column c =
    let ds = struct_fields c.args.declared.now in
    let ks = c.args.kinds.now in
    let fields = c.args.fields.now in
    let k = c.loop-place.place in
    record {
      below = omega (arith, c.loop-place-test.true, length-map fields field_in);
      misfit = sym (ap (λ n. fits_column ds ks (k % n) (field_at (map field_in fields) k)) c.len.ensures)
          ∙ ap (fits_column ds ks (k % c.len.result)) (sym (field_is fields k _ c.loop-place-test.true))
          ∙ sym c.fits_column.ensures ∙ c.if-not-fits_column.true;
      before = c.loop-place.invariant;
    }

pub loop-place-preserved : goal.loop-place-preserved
loop-place-preserved c =
    let ds = struct_fields c.args.declared.now in
    let ks = c.args.kinds.now in
    let fields = c.args.fields.now in
    let k = c.loop-place.place in
    below_more _ _ c.loop-place.invariant
    (sym (ap (λ n. fits_column ds ks (k % n) (field_at (map field_in fields) k)) c.len.ensures)
    ∙ ap (fits_column ds ks (k % c.len.result)) (sym (field_is fields k _ c.loop-place-test.true))
    ∙ sym c.fits_column.ensures ∙ c.if-not-fits_column.false)
