use Rattle.std.proofs.Common.{arith, ◌∙◌, ◌+◌, ◌*◌, ◌/◌, ◌^◌}
use Rattle.std.proofs.Math.Nat.{div-div-eq-div-mul}
use Rattle.vortex_checked.proofs.Dividing.{by_reciprocal}
use Rattle.vortex_checked.proofs.division_16.SizeDivisor16.quotient.Goals as goal

pub returns : goal.returns
returns c =
    let d = c.args.self.now in
    (λ i. c.from.ensures i * c.from-2.ensures i / 65536 / 2 ^ d.shift)
    ∙ div-div-eq-div-mul (c.args.number * d.inverse) 65536 (2 ^ d.shift)
    ∙ by_reciprocal c.args.number (2 ^ 15 + 1) (2 ^ 16 * 2 ^ d.shift) d.divisor d.inverse
    (omega (arith, c.requires)) d.exact
