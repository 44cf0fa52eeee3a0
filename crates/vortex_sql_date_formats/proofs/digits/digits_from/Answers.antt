use Rattle.std.proofs.Common.{◌≡◌, ◌∙◌, ◌≤◌, ◌-◌, ℕ, true, get_or, arith, refl, sym}
use Rattle.std.specs.Char.{is_ascii_digit}
use Rattle.std.proofs.lemmas.Grind.{common_steps}
use Rattle.vortex_sql_date_formats.proofs.DigitLemmas.{no_digits_yet, number_small, one_digit, one_more}
use Rattle.vortex_sql_date_formats.proofs.digits.digits_from.Goals as goal

digit_most : (b : ℕ) → is_ascii_digit b ≡ true → b - 48 ≤ 9
digit_most b e = grind (arith, e)

pub loop-i-init : goal.loop-i-init
loop-i-init c = record {
  places = omega arith;
  few = omega arith;
  small = no_digits_yet c.args.width c.requires;
  same = refl;
}

pub loop-i-preserved : goal.loop-i-preserved
loop-i-preserved c =
    let b = get_or c.args.text.now c.loop-i.i 0 in
    let digit : b - 48 ≤ 9 = digit_most b (sym c.is_ascii_digit.ensures.value ∙ c.if-not-is_ascii_digit.false) in
    let less = one_digit c.loop-i.left c.loop-i.number (b - 48) c.if-left-eq0.false digit c.loop-i.invariant.small in
    record {
      places = omega arith;
      few = number_small (c.loop-i.left - 1) _ less;
      small = less;
      same = grind (arith, common_steps, one_more);
    }
