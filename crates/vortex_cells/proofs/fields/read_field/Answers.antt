use Rattle.std.proofs.Common.{ap, sym, ◌∙◌, Option, Bor, List, ℕ}
use Rattle.vortex_types.specs.TypeOf.{allows_null}
use Rattle.vortex_cells.specs.Cells.{cell_in}
use Rattle.vortex_cells.specs.Fields.{field_value}
use Rattle.vortex_cells.proofs.fields.read_field.Goals as goal

pub returns-in_ok-read_bytes-in-Some : goal.returns-in_ok-read_bytes-in-Some
returns-in_ok-read_bytes-in-Some g c =
    let n = allows_null c.args.nullability in
    c.in_ok-read_bytes-in-Some.ensures n
    ∙ ap
    (λ (field : Option (Bor (List ℕ))). field_value (g.K.CellTypes.kind n) (cell_in field))
    (sym c.in-Some.is)

pub returns-in_err-read_bytes-in-Some : goal.returns-in_err-read_bytes-in-Some
returns-in_err-read_bytes-in-Some g c =
    let n = allows_null c.args.nullability in
    rw c.from_residual.ensures
    (c.in_err-read_bytes-in-Some.ensures n
    ∙ ap
    (λ (field : Option (Bor (List ℕ))). field_value (g.K.CellTypes.kind n) (cell_in field))
    (sym c.in-Some.is))
