use Rattle.std.proofs.Common.{arith, ◌∙◌, ◌+◌, ◌-◌, ◌*◌, ◌/◌, ◌^◌}
use Rattle.vortex_checked.proofs.Dividing.{by_wide_reciprocal}
use Rattle.vortex_checked.proofs.division_16.Divisor16.quotient.Goals as goal

pub returns : goal.returns
returns c =
    let d = c.args.self.now in
    (λ i.
    (c.from.ensures i * c.from-2.ensures i / 65536
    + (c.args.number - c.from.ensures i * c.from-2.ensures i / 65536) / 2)
    / 2 ^ d.shift)
    ∙ by_wide_reciprocal (2 ^ 16) c.args.number d.divisor d.inverse (2 ^ d.shift) (omega arith) (omega arith)
    (omega arith) d.exact
