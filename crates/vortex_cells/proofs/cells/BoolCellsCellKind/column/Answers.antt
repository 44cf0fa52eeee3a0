use Rattle.std.proofs.Common.{◌≡◌, true, false, length, map, refl, sym, ap, ◌∙◌}
use Rattle.std.specs.Prelude.{slice_index_or}
use Rattle.std.proofs.lemmas.List.{length-map}
use Rattle.vortex_errors.specs.declared.error.VortexError.TheVariants.{InvalidColumn}
use Rattle.vortex_types.specs.LogicalTypes.{bool_type}
use Rattle.vortex_types.specs.Values.{truth}
use Rattle.vortex_columns.specs.ValidityView.{validity_of, FitsRows}
use Rattle.vortex_columns.specs.ColumnView.{ColumnView}
use Rattle.vortex_columns.specs.Stored.{bool_column}
use Rattle.vortex_cells.specs.CellValues.{fit_column}
use Rattle.vortex_cells.specs.Cells.{IsMade}
use Rattle.vortex_cells.proofs.CellRows.{answers_same, made_is, truths_at, all_fit}
use Rattle.vortex_cells.proofs.cells.BoolCellsCellKind.column.Goals as goal

pub returns : goal.returns
returns c =
    let xs = c.args.values.items in
    let bits = c.in_ok-bits.bits in
    let v = validity_of c.args.validity in
    let same = c.in_ok-bits.ensures ∙ c.deref.ensures.value in
    answers_same c.try_bool.result (FitsRows v (length bits))
    (FitsRows v (length xs) × (fit_column (map truth xs) ≡ true))
    (λ (d : ColumnView). d ≡ bool_column bits v) (IsMade bool_type v (map truth xs)) InvalidColumn
    (λ h. (rw (ap length same) at h, all_fit truth (λ x. refl) xs))
    (λ h. rw (← ap length same) at h.0)
    (λ d e.
    made_is bool_type v (length bits) (λ i. truth (slice_index_or bits i false)) (map truth xs) d
    (ap length same ∙ sym (length-map xs truth)) (truths_at xs bits same) e)
    c.try_bool.ensures
