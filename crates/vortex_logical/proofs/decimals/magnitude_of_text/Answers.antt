use Rattle.std.proofs.Common.{◌≡◌, ◌+◌, ◌*◌, ◌-◌, ◌^◌, subst, ap, drop, false, get_or, arith}
use Rattle.std.proofs.lemmas.Grind.{common_steps}
use Rattle.vortex_logical.specs.DecimalTexts.{value_from}
use Rattle.vortex_logical.proofs.DecimalReading.{too_great, past, PastLimit}
use Rattle.vortex_logical.proofs.decimals.magnitude_of_text.Goals as goal

pub returns-then-number-limit-clause-value : goal.returns-then-number-limit-clause-value
returns-then-number-limit-clause-value c =
    let text = c.args.text.now in
    let limit = 10 ^ c.args.digits.precision in
    let number = c.loop-i.number * 10 + (get_or text c.loop-i.i 0 - 48) in
    let same : value_from c.loop-i.seen c.if-seen-2.left number (drop (c.loop-i.i + 1) text)
    ≡ value_from false c.args.digits.scale 0 text = grind (arith, common_steps) in
    let power = ap (λ p. 10 ^ p) c.precision.ensures.value in
    too_great c.args.digits text
    (subst (PastLimit limit) same
    (past c.loop-i.seen c.if-seen-2.left number limit (drop (c.loop-i.i + 1) text) (omega (arith, power))))
