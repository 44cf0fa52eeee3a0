use Rattle.std.proofs.Common.{◌∙◌, ap, of_z, w64, int_lt, pos, ◌%◌, refl}
use Rattle.std.specs.Float.{binary64}
use Rattle.vortex_logical.specs.FloatKeys.{sign_weight}
use Rattle.vortex_float_bits.proofs.FloatBits.{nan_by_size, said, infinite}
use Rattle.vortex_float_bits.proofs.is_nan.Goals as goal

pub returns : goal.returns
returns c =
    let z = c.args.pattern in
    ap (λ y. int_lt (pos (infinite binary64)) y)
    (said binary64 z c.wide_size.result c.ranges.pattern c.wide_size.ensures)
    ∙ nan_by_size binary64 (of_z w64 z) (pos (of_z w64 z % sign_weight binary64)) refl
