use Rattle.std.proofs.Common.{Some, sym, ap, ◌∙◌, ◌&&◌, option_map}
use Rattle.std.specs.Str.{is_utf8}
use Rattle.std.proofs.lemmas.Str.{IsUtf8-from_is_utf8, is_utf8-from_IsUtf8}
use Rattle.std.proofs.lemmas.Bool.{false_from_ne_true}
use Rattle.vortex_types.specs.TypeOf.{type_of}
use Rattle.vortex_cells.specs.CellValues.{cell_fits}
use Rattle.rowfn_queries.specs.Inference.{holds}
use Rattle.rowfn_queries.proofs.inference.holds.Goals as goal

pub returns-in-Ok : goal.returns-in-Ok
returns-in-Ok c =
    let bytes = c.in-Some.bytes.now in
    let t = type_of c.args.dtype.now in
    let readable = is_utf8-from_IsUtf8 bytes c.in-Ok.ensures.cases.1 in
    c.cell_fits.ensures
    ∙ ap (λ w. cell_fits t (Some w)) c.in-Ok.ensures.cases.0
    ∙ sym (ap (λ b. b && cell_fits t (Some bytes)) readable)
    ∙ ap (λ f. holds t (option_map (λ b. b.now) f)) (sym c.in-Some.is)

pub returns-in-Err : goal.returns-in-Err
returns-in-Err c =
    let bytes = c.in-Some.bytes.now in
    let t = type_of c.args.dtype.now in
    let unreadable =
    false_from_ne_true (is_utf8 bytes)
    (λ e. c.in-Err.ensures.cases.0 (IsUtf8-from_is_utf8 bytes e)) in
    sym (ap (λ b. b && cell_fits t (Some bytes)) unreadable)
    ∙ ap (λ f. holds t (option_map (λ b. b.now) f)) (sym c.in-Some.is)
