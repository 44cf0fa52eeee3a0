use Rattle.std.proofs.Common.{tests, ◌<◌, length, sym, arith}
use Rattle.vortex_cells.proofs.Numbers.{digits_known}
use Rattle.vortex_cells.proofs.digits.are_digits.Goals as goal

pub returns-then-not-is_empty : goal.returns-then-not-is_empty
returns-then-not-is_empty c =
    let some : 0 < length c.args.word.now = grind (arith, tests) in
    digits_known c.args.word.now some c.all_digits.result (sym c.all_digits.ensures)
