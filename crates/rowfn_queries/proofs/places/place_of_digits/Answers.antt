use Rattle.std.proofs.Common.{rules, None, ◌≡◌, ◌∙◌}
use Rattle.vortex_cells.specs.CellValues.{integer_of}
use Rattle.rowfn_queries.proofs.Placed.{no_place}
use Rattle.rowfn_queries.proofs.places.place_of_digits.Goals as goal

pub returns-in_err-number : goal.returns-in_err-number
returns-in_err-number c =
    let none : c.from_residual.result ≡ None = search rules in
    none ∙ no_place (integer_of c.args.digits.now) (search rules)
