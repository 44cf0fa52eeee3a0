use Rattle.std.proofs.Common.{◌∙◌, sym, ap, of_z, to_z-of_z, true, false, is_nan, from_bits, w64}
use Rattle.std.specs.Float.{binary64}
use Rattle.vortex_float_bits.specs.FloatBits.{wide_pattern, turned}
use Rattle.vortex_float_bits.proofs.FloatBits.{turned_is_pattern, nan_is_pattern, nan_told}
use Rattle.vortex_float_bits.proofs.wide_pattern.Goals as goal

pub returns-then-wide_size-gt-WIDE_INFINITY : goal.returns-then-wide_size-gt-WIDE_INFINITY
unfolding wide_pattern
returns-then-wide_size-gt-WIDE_INFINITY c =
    let turn = c.turn_wide-pattern in
    let back = turn.ensures ∙ ap (λ y. turned binary64 y) (to_z-of_z c.ranges.key) in
    nan_is_pattern binary64 c.args.key c.ranges.key
    (sym (ap (λ y. is_nan (from_bits binary64 (of_z w64 y))) back)
    ∙ nan_told binary64 turn.result c.wide_size.result true (record { sfits = turn.type_inv })
    c.wide_size.ensures c.if-wide_size-gt-WIDE_INFINITY.true)

pub returns-else-wide_size-gt-WIDE_INFINITY : goal.returns-else-wide_size-gt-WIDE_INFINITY
unfolding wide_pattern
returns-else-wide_size-gt-WIDE_INFINITY c =
    let turn = c.turn_wide-pattern in
    let back = turn.ensures ∙ ap (λ y. turned binary64 y) (to_z-of_z c.ranges.key) in
    to_z-of_z {w = w64} (record { sfits = turn.type_inv })
    ∙ back
    ∙ turned_is_pattern binary64 c.args.key c.ranges.key
    (sym (ap (λ y. is_nan (from_bits binary64 (of_z w64 y))) back)
    ∙ nan_told binary64 turn.result c.wide_size.result false (record { sfits = turn.type_inv })
    c.wide_size.ensures c.if-wide_size-gt-WIDE_INFINITY.false)
