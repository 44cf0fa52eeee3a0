use Rattle.std.proofs.Common.{◌∙◌, sym, ap, to_z, of_z, pos, int_lt, to_z-of_z, w64, ◌-ℤ◌, FitsSigned, rules}
use Rattle.std.specs.Float.{binary64}
use Rattle.vortex_float_bits.proofs.FloatBits.{size_of_pos, size_of_neg, least}
use Rattle.vortex_float_bits.proofs.wide_size.Goals as goal

pub returns-then-pattern-lt0 : goal.returns-then-pattern-lt0
returns-then-pattern-lt0 c =
    let z = c.args.pattern in
    let same = to_z-of_z c.ranges.pattern in
    let fits : FitsSigned w64 (z -ℤ least binary64) = search rules in
    ap (λ y. to_z w64 (of_z w64 (y -ℤ least binary64))) same ∙ to_z-of_z fits
    ∙ size_of_neg binary64 z c.ranges.pattern (sym (ap (λ y. int_lt y (pos 0)) same) ∙ c.if-pattern-lt0.true)

pub returns-else-pattern-lt0 : goal.returns-else-pattern-lt0
returns-else-pattern-lt0 c =
    let same = to_z-of_z c.ranges.pattern in
    same
    ∙ size_of_pos binary64 c.args.pattern c.ranges.pattern (sym (ap (λ y. int_lt y (pos 0)) same) ∙ c.if-pattern-lt0.false)
