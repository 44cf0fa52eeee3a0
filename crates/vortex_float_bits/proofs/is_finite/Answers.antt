use Rattle.std.proofs.Common.{◌∙◌, ap, of_z, w64, int_lt, pos}
use Rattle.std.specs.Float.{binary64}
use Rattle.vortex_float_bits.proofs.FloatBits.{finite_by_size, said, held, infinite}
use Rattle.vortex_float_bits.proofs.is_finite.Goals as goal

pub returns : goal.returns
returns c =
    let z = c.args.pattern in
    ap (λ y. int_lt y (pos (infinite binary64)))
    (said binary64 z c.wide_size.result c.ranges.pattern c.wide_size.ensures)
    ∙ finite_by_size (of_z w64 z) (held binary64 z c.ranges.pattern)
