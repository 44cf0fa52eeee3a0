use Rattle.std.proofs.Common.{◌≡◌, ◌/◌, ap, sym, arith, rules, ◌∙◌, pos, w16, SFits, to_z, of_z}
use Rattle.std.specs.Prelude.{int_lt, unsigned_abs}
use Rattle.std.proofs.lemmas.Int.{to_z_pos, to_z-of_z}
use mathlib.Core.Bool.{beq}
use Rattle.vortex_checked.proofs.Dividing.{at_most_half}
use Rattle.vortex_checked.proofs.Signs.{same_sign, negated_fits}
use Rattle.vortex_checked.proofs.division_16.SignedDivisor16.quotient.Goals as goal

pub overflow_cast-size : goal.overflow_cast-size
overflow_cast-size c =
    let size = c.args.self.now.size in
    let half = at_most_half c.unsigned_abs.result size.divisor size.some in
    record { sfits = omega (arith, c.quotient-size.ensures, c.unsigned_abs.ensures.bound, half) }

pub overflow_sub-result : goal.overflow_sub-result
overflow_sub-result c =
    let size = c.args.self.now.size in
    let half = at_most_half c.unsigned_abs.result size.divisor size.some in
    negated_fits w16 c.quotient-size.result
    (omega (arith, c.quotient-size.ensures, c.unsigned_abs.ensures.bound, half))

pub returns-then-number-self : goal.returns-then-number-self
returns-then-number-self c =
    let d = c.args.self.now in
    let half = at_most_half c.unsigned_abs.result d.size.divisor d.size.some in
    let number : to_z w16 (of_z w16 c.args.number) ≡ c.args.number = grind (arith, to_z-of_z) in
    let fits : SFits w16 d.divisor = search rules in
    let divisor : to_z w16 (of_z w16 d.divisor) ≡ d.divisor = to_z-of_z w16 d.divisor fits in
    to_z_pos w16 c.quotient-size.result
    (omega (arith, c.quotient-size.ensures, c.unsigned_abs.ensures.bound, half))
    ∙ ap pos (c.quotient-size.ensures
    ∙ (λ i. (c.unsigned_abs.ensures.value ∙ ap unsigned_abs number) i / d.same i))
    ∙ same_sign c.args.number d.divisor
    ((λ i. beq (int_lt (sym number i) (pos 0)) (int_lt (sym divisor i) (pos 0))) ∙ c.if-number-self.true)
