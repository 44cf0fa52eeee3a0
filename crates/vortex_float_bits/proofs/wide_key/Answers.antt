use Rattle.std.proofs.Common.{◌∙◌, ap, true, false, of_z, to_z-of_z, from_bits, w64}
use Rattle.std.specs.Float.{binary64}
use Rattle.vortex_float_bits.specs.FloatBits.{wide_key, turned}
use Rattle.vortex_float_bits.proofs.FloatBits.{turned_is_key, nan_is_key, nan_told}
use Rattle.vortex_float_bits.proofs.wide_key.Goals as goal

pub returns-then-wide_size-gt-WIDE_INFINITY : goal.returns-then-wide_size-gt-WIDE_INFINITY
unfolding wide_key
returns-then-wide_size-gt-WIDE_INFINITY c =
    nan_is_key binary64 (from_bits binary64 (of_z w64 c.args.pattern))
    (nan_told binary64 c.args.pattern c.wide_size.result true c.ranges.pattern c.wide_size.ensures c.if-wide_size-gt-WIDE_INFINITY.true)

pub returns-else-wide_size-gt-WIDE_INFINITY : goal.returns-else-wide_size-gt-WIDE_INFINITY
unfolding wide_key
returns-else-wide_size-gt-WIDE_INFINITY c =
    to_z-of_z {w = w64} (record { sfits = c.turn_wide.type_inv }) ∙ c.turn_wide.ensures
    ∙ ap (λ y. turned binary64 y) (to_z-of_z c.ranges.pattern)
    ∙ turned_is_key binary64 c.args.pattern c.ranges.pattern
    (nan_told binary64 c.args.pattern c.wide_size.result false c.ranges.pattern c.wide_size.ensures c.if-wide_size-gt-WIDE_INFINITY.false)
