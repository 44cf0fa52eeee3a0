use Rattle.std.proofs.Common.{tests, arith, ◌-◌, ◌≤◌, ◌∙◌, sym, refl, get_or}
use Rattle.vortex_cells.proofs.ShortNumbers.{next_digit, last_digit, few_held, few_more}
use Rattle.vortex_cells.proofs.digits.few_digits.Goals as goal

pub overflow_mul-number : goal.overflow_mul-number
overflow_mul-number c =
    let held =
    few_held c.loop-byte.byte-index c.loop-byte.number
    (omega (arith, c.loop-byte-test.true, c.requires.few)) c.loop-byte.invariant.small in
    omega (arith, held)

pub overflow_add-number : goal.overflow_add-number
overflow_add-number c =
    let held =
    few_held c.loop-byte.byte-index c.loop-byte.number
    (omega (arith, c.loop-byte-test.true, c.requires.few)) c.loop-byte.invariant.small in
    omega (arith, held)

pub loop-byte-preserved : goal.loop-byte-preserved
loop-byte-preserved c =
    let digit = get_or c.args.digits.now c.loop-byte.byte-index 0 in
    let is_digit = sym c.is_ascii_digit.ensures.value ∙ c.if-not-is_ascii_digit.false in
    let small : digit - 48 ≤ 9 = grind (arith, tests, is_digit) in
    record {
      says = next_digit c.args.digits.now c.loop-byte.byte-index c.loop-byte.number digit _
          c.loop-byte-test.true refl is_digit refl c.loop-byte.invariant.says;
      small = few_more c.loop-byte.byte-index c.loop-byte.number (digit - 48) _ small
          c.loop-byte.invariant.small refl;
    }

pub returns : goal.returns
returns c =
    last_digit c.args.digits.now c.loop-byte.byte-index c.loop-byte.number c.requires.some
    c.loop-byte-test.false c.loop-byte.invariant.says
