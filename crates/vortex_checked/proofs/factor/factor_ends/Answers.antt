use Rattle.std.proofs.Common.{sym, ◌∙◌}
use Rattle.std.specs.Prelude.{int_lt}
use Rattle.vortex_checked.proofs.Ends.{ends_below_zero, ends_from_zero, told_so}
use Rattle.vortex_checked.proofs.factor.factor_ends.Goals as goal

pub returns-then-is_below : goal.returns-then-is_below
returns-then-is_below g c =
    let number = g.T.CheckedArithmetic.number in
    let least = g.T.CheckedArithmetic.least in
    let greatest = g.T.CheckedArithmetic.greatest in
    let l = number c.least_value-least.result in
    let h = number c.greatest_value-greatest.result in
    let f = number c.args.factor in
    let zero = g.met.T.CheckedArithmetic.zero c.default.result c.default.ensures in
    let z = number c.quotient_or.result in
    let y = number c.quotient_or-then-is_below.result in
    let low = c.least_value-least.ensures in
    let high = c.greatest_value-greatest.ensures in
    ends_below_zero least greatest f z y g.met.T.ConstantArithmetic.holds_zero
    ((λ i. int_lt f (sym zero i)) ∙ sym c.is_below.ensures.order ∙ c.if-is_below.true)
    (told_so least greatest h greatest f l least z high low
    (c.quotient_or.ensures.held, c.quotient_or.ensures.other))
    (told_so least greatest l least f h greatest y low high
    (c.quotient_or-then-is_below.ensures.held, c.quotient_or-then-is_below.ensures.other))

pub returns-else-is_below : goal.returns-else-is_below
returns-else-is_below g c =
    let number = g.T.CheckedArithmetic.number in
    let least = g.T.CheckedArithmetic.least in
    let greatest = g.T.CheckedArithmetic.greatest in
    let l = number c.least_value-least.result in
    let h = number c.greatest_value-greatest.result in
    let f = number c.args.factor in
    let zero = g.met.T.CheckedArithmetic.zero c.default.result c.default.ensures in
    let z = number c.quotient_or-else-is_below.result in
    let y = number c.quotient_or-else-is_below-2.result in
    let low = c.least_value-least.ensures in
    let high = c.greatest_value-greatest.ensures in
    ends_from_zero least greatest f z y g.met.T.ConstantArithmetic.holds_zero
    ((λ i. int_lt f (sym zero i)) ∙ sym c.is_below.ensures.order ∙ c.if-is_below.false)
    (told_so least greatest l least f l least z low low
    (c.quotient_or-else-is_below.ensures.held, c.quotient_or-else-is_below.ensures.other))
    (told_so least greatest h greatest f h greatest y high high
    (c.quotient_or-else-is_below-2.ensures.held, c.quotient_or-else-is_below-2.ensures.other))
