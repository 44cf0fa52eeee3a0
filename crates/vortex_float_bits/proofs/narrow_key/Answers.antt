use Rattle.std.proofs.Common.{◌∙◌, ap, true, false, of_z, to_z-of_z, from_bits, w32}
use Rattle.std.specs.Float.{binary32}
use Rattle.vortex_float_bits.specs.FloatBits.{narrow_key, turned}
use Rattle.vortex_float_bits.proofs.FloatBits.{turned_is_key, nan_is_key, nan_told}
use Rattle.vortex_float_bits.proofs.narrow_key.Goals as goal

pub returns-then-narrow_size-gt-NARROW_INFINITY : goal.returns-then-narrow_size-gt-NARROW_INFINITY
unfolding narrow_key
returns-then-narrow_size-gt-NARROW_INFINITY c =
    nan_is_key binary32 (from_bits binary32 (of_z w32 c.args.pattern))
    (nan_told binary32 c.args.pattern c.narrow_size.result true c.ranges.pattern c.narrow_size.ensures c.if-narrow_size-gt-NARROW_INFINITY.true)

pub returns-else-narrow_size-gt-NARROW_INFINITY : goal.returns-else-narrow_size-gt-NARROW_INFINITY
unfolding narrow_key
returns-else-narrow_size-gt-NARROW_INFINITY c =
    to_z-of_z {w = w32} (record { sfits = c.turn_narrow.type_inv }) ∙ c.turn_narrow.ensures
    ∙ ap (λ y. turned binary32 y) (to_z-of_z c.ranges.pattern)
    ∙ turned_is_key binary32 c.args.pattern c.ranges.pattern
    (nan_told binary32 c.args.pattern c.narrow_size.result false c.ranges.pattern c.narrow_size.ensures c.if-narrow_size-gt-NARROW_INFINITY.false)
