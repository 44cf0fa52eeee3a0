use Rattle.std.proofs.Common.{◌+◌, ◌-◌, ◌∙◌, ap, sym, refl, ℕ, get_or}
use Rattle.vortex_cells.proofs.ShortNumbers.{next_digit, last_digit}
use Rattle.vortex_cells.proofs.digits.many_digits.Goals as goal

pub loop-byte-preserved : goal.loop-byte-preserved
loop-byte-preserved c =
    let digit = get_or c.args.digits.now c.loop-byte.byte-index 0 in
    next_digit c.args.digits.now c.loop-byte.byte-index c.loop-byte.number digit
    c.in_ok-number.number c.loop-byte-test.true refl
    (sym c.is_ascii_digit.ensures.value ∙ c.if-not-is_ascii_digit.false)
    (c.in_ok-number.ensures.1
    ∙ ap (λ (n : ℕ). n + (digit - 48)) c.in_ok-checked_mul.ensures.1)
    c.loop-byte.invariant

pub returns : goal.returns
returns c =
    last_digit c.args.digits.now c.loop-byte.byte-index c.loop-byte.number
    c.requires c.loop-byte-test.false c.loop-byte.invariant
