use Rattle.std.proofs.Common.{◌≡◌, true, length, map, refl, sym, pos}
use Rattle.std.specs.Prelude.{slice_index_or}
use Rattle.std.proofs.lemmas.List.{length-map}
use Rattle.vortex_errors.specs.declared.error.VortexError.TheVariants.{InvalidColumn}
use Rattle.vortex_types.specs.LogicalTypes.{integer_type}
use Rattle.vortex_types.specs.Values.{number}
use Rattle.vortex_columns.specs.ValidityView.{validity_of, FitsRows, form_allows_null}
use Rattle.vortex_columns.specs.ColumnView.{ColumnView}
use Rattle.vortex_columns.specs.Stored.{made_of}
use Rattle.vortex_cells.specs.CellValues.{fit_column}
use Rattle.vortex_cells.specs.Cells.{IsMade}
use Rattle.vortex_cells.proofs.CellRows.{answers_same, made_is, numbers_at, all_fit}
use Rattle.vortex_cells.proofs.cells.IntCellsCellKind.column.Goals as goal

pub returns : goal.returns
returns g c =
    let xs = c.args.values.items in
    let v = validity_of c.args.validity in
    let p = g.T.NativePType.ptype in
    let f = g.T.NativePType.number in
    let vs = map (λ x. number (f x)) xs in
    answers_same c.try_primitive.result (FitsRows v (length xs))
    (FitsRows v (length xs) × (fit_column vs ≡ true))
    (λ (d : ColumnView). d
    ≡ made_of (integer_type p (form_allows_null v.form)) v (length xs)
    (λ i. number (slice_index_or (map f xs) i (pos 0))))
    (IsMade (integer_type p) v vs) InvalidColumn
    (λ h. (h, all_fit (λ x. number (f x)) (λ x. refl) xs)) (λ h. h.0)
    (λ d e.
    made_is (integer_type p) v (length xs) (λ i. number (slice_index_or (map f xs) i (pos 0))) vs
    d (sym (length-map xs (λ x. number (f x)))) (numbers_at f xs) e)
    c.try_primitive.ensures
