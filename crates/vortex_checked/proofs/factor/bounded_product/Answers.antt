use Rattle.vortex_checked.proofs.Ends.{outside_tells}
use Rattle.vortex_checked.proofs.factor.bounded_product.Goals as goal

pub returns-clause-fault : goal.returns-clause-fault
returns-clause-fault g c =
    let number = g.T.CheckedArithmetic.number in
    let x = number c.args.number in
    outside_tells (number c.args.least) (number c.args.greatest) x c.is_below.result
    c.is_below-2.result (c.requires x c.is_below.ensures.fits) c.is_below.ensures.order
    c.is_below-2.ensures.order
