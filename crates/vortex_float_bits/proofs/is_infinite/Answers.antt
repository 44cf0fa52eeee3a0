use Rattle.std.proofs.Common.{◌∙◌, ap, of_z, w64, eqb}
use Rattle.std.specs.Float.{binary64}
use Rattle.vortex_float_bits.proofs.FloatBits.{infinite_by_size, sized, held, infinite}
use Rattle.vortex_float_bits.proofs.is_infinite.Goals as goal

pub returns : goal.returns
returns c =
    let z = c.args.pattern in
    ap (λ y. eqb (of_z w64 y) (infinite binary64))
    (sized binary64 z c.wide_size.result c.ranges.pattern c.wide_size.ensures)
    ∙ infinite_by_size (of_z w64 z) (held binary64 z c.ranges.pattern)
