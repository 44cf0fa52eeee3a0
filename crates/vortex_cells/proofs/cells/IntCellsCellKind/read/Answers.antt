use Rattle.std.proofs.Common.{◌≡◌, arith, to_z-of_z}
use Rattle.std.specs.Int.{w128}
use mir.Val.{to_z, of_z}
use Rattle.vortex_cells.proofs.Numbers.{number_held, number_lost}
use Rattle.vortex_cells.proofs.cells.IntCellsCellKind.read.Goals as goal

pub returns-in-Some : goal.returns-in-Some
returns-in-Some g c = λ n.
    let z = c.in-Some.number in
    let same : to_z w128 (of_z w128 z) ≡ z = grind (arith, to_z-of_z) in
    number_held g.T.NativePType.number g.T.NativePType.ptype c.args.text.now z c.from_i128.result
    c.in-Some.ensures (rw same at c.from_i128.ensures)

pub returns-in-None : goal.returns-in-None
returns-in-None g c = λ n. number_lost g.T.NativePType.ptype c.args.text.now c.in-None.ensures
