use Rattle.std.proofs.Common.{Some, None, sym, ap, ◌∙◌, if◌then◌else◌}
use Rattle.std.specs.Str.{is_utf8}
use Rattle.std.proofs.lemmas.Str.{IsUtf8-from_is_utf8, is_utf8-from_IsUtf8}
use Rattle.std.proofs.lemmas.Bool.{false_from_ne_true}
use Rattle.vortex_cells.specs.Fields.{field_cell}
use Rattle.vortex_cells.specs.Cells.{cell_in}
use Rattle.vortex_logical_cells.proofs.fields.cell_of_field.Goals as goal

pub returns : goal.returns
returns c =
    let bytes = c.in-Some.bytes.now in
    let readable = is_utf8-from_IsUtf8 bytes c.in_ok-text.ensures.1 in
    ap (λ t. Some (Some t)) c.in_ok-text.ensures.0
    ∙ sym (ap (λ b. if b then Some (Some bytes) else None) readable)
    ∙ ap (λ f. field_cell (cell_in f)) (sym c.in-Some.is)

pub returns-in_err-text : goal.returns-in_err-text
returns-in_err-text c =
    let bytes = c.in-Some.bytes.now in
    let unreadable =
    false_from_ne_true (is_utf8 bytes)
    (λ e. c.in_err-text.ensures (IsUtf8-from_is_utf8 bytes e)) in
    rw c.from_residual.ensures
    (sym (ap (λ b. if b then Some (Some bytes) else None) unreadable)
    ∙ ap (λ f. field_cell (cell_in f)) (sym c.in-Some.is))
