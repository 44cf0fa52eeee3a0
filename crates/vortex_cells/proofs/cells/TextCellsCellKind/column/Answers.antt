use Rattle.std.proofs.Common.{◌≡◌, true, [], length, map, sym, subst, ◌∙◌, List, ℕ}
use Rattle.std.specs.Prelude.{slice_index_or}
use Rattle.std.specs.Borrow.{Bor}
use Rattle.std.proofs.lemmas.List.{length-map}
use Rattle.vortex_errors.specs.declared.error.VortexError.TheVariants.{InvalidColumn}
use Rattle.vortex_types.specs.LogicalTypes.{text_type}
use Rattle.vortex_types.specs.Values.{text}
use Rattle.vortex_columns.specs.ValidityView.{validity_of, FitsRows, form_allows_null}
use Rattle.vortex_columns.specs.ColumnView.{ColumnView}
use Rattle.vortex_columns.specs.Stored.{made_of}
use Rattle.vortex_views.specs.Collected.{HaveRoom}
use Rattle.vortex_cells.specs.Answering.{MakesColumn}
use Rattle.vortex_cells.specs.CellValues.{fit_column}
use Rattle.vortex_cells.specs.Cells.{IsMade}
use Rattle.vortex_cells.proofs.CellRows.{answers_same, made_is, texts_at, room_fits, fitting_room}
use Rattle.vortex_cells.proofs.cells.TextCellsCellKind.column.Goals as goal

abbrev borrowed : Bor (List ℕ) → List ℕ
borrowed = λ t. t.now

pub returns : goal.returns
returns c =
    let xs = c.deref.result.now in
    let v = validity_of c.args.validity in
    let vs = map (λ s. text (borrowed s)) xs in
    subst (λ (ys : List (Bor (List ℕ))). MakesColumn (λ s. text s.now) text_type v ys
    c.try_texts.result)
    c.deref.ensures.value
    (answers_same c.try_texts.result
    (FitsRows v (length xs) × HaveRoom (map borrowed xs))
    (FitsRows v (length xs) × (fit_column vs ≡ true))
    (λ (d : ColumnView). d
    ≡ made_of (text_type (form_allows_null v.form)) v (length (map borrowed xs))
    (λ i. text (slice_index_or (map borrowed xs) i [])))
    (IsMade text_type v vs) InvalidColumn
    (λ h. (h.0, room_fits borrowed xs h.1)) (λ h. (h.0, fitting_room borrowed xs h.1))
    (λ d e.
    made_is text_type v (length (map borrowed xs)) (λ i. text (slice_index_or (map borrowed xs) i [])) vs d
    (length-map xs borrowed ∙ sym (length-map xs (λ s. text (borrowed s)))) (texts_at borrowed xs) e)
    c.try_texts.ensures)
