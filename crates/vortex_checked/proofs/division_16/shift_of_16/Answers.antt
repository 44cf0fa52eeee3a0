use Rattle.std.proofs.Common.{arith, ◌-◌}
use Rattle.vortex_checked.proofs.Dividing.{top_power}
use Rattle.vortex_checked.proofs.division_16.shift_of_16.Goals as goal

pub returns-clause-below : goal.returns-clause-below
returns-clause-below c =
    omega (arith, c.requires, top_power 16 (c.args.divisor - 1) (omega arith) (omega (arith, c.requires)) (omega arith))

pub returns-clause-most : goal.returns-clause-most
returns-clause-most c =
    omega (arith, c.requires, top_power 16 (c.args.divisor - 1) (omega arith) (omega (arith, c.requires)) (omega arith))
