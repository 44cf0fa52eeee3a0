use Rattle.vortex_cells.proofs.ShortNumbers.{said_as, minus_first, plain_first}
use Rattle.vortex_cells.proofs.digits.short_integer.Goals as goal

pub returns-then-first-eq45 : goal.returns-then-first-eq45
returns-then-first-eq45 c =
    said_as _ _ c.short_negative.result
    (minus_first c.args.bytes.now c.in_ok-first.rest.now c.in_ok-first.first.now
    c.in_ok-first.ensures.cases.0 c.if-first-eq45.true)
    c.short_negative.ensures

pub returns-else-first-eq45 : goal.returns-else-first-eq45
returns-else-first-eq45 c =
    said_as _ _ c.short_plain.result
    (plain_first c.args.bytes.now c.in_ok-first.rest.now c.in_ok-first.first.now
    c.in_ok-first.ensures.cases.0 c.if-first-eq45.false)
    c.short_plain.ensures
