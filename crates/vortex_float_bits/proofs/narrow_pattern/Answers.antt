use Rattle.std.proofs.Common.{◌∙◌, sym, ap, of_z, to_z-of_z, true, false, is_nan, from_bits, w32}
use Rattle.std.specs.Float.{binary32}
use Rattle.vortex_float_bits.specs.FloatBits.{narrow_pattern, turned}
use Rattle.vortex_float_bits.proofs.FloatBits.{turned_is_pattern, nan_is_pattern, nan_told}
use Rattle.vortex_float_bits.proofs.narrow_pattern.Goals as goal

pub returns-then-narrow_size-gt-NARROW_INFINITY : goal.returns-then-narrow_size-gt-NARROW_INFINITY
unfolding narrow_pattern
returns-then-narrow_size-gt-NARROW_INFINITY c =
    let turn = c.turn_narrow-pattern in
    let back = turn.ensures ∙ ap (λ y. turned binary32 y) (to_z-of_z c.ranges.key) in
    nan_is_pattern binary32 c.args.key c.ranges.key
    (sym (ap (λ y. is_nan (from_bits binary32 (of_z w32 y))) back)
    ∙ nan_told binary32 turn.result c.narrow_size.result true (record { sfits = turn.type_inv })
    c.narrow_size.ensures c.if-narrow_size-gt-NARROW_INFINITY.true)

pub returns-else-narrow_size-gt-NARROW_INFINITY : goal.returns-else-narrow_size-gt-NARROW_INFINITY
unfolding narrow_pattern
returns-else-narrow_size-gt-NARROW_INFINITY c =
    let turn = c.turn_narrow-pattern in
    let back = turn.ensures ∙ ap (λ y. turned binary32 y) (to_z-of_z c.ranges.key) in
    to_z-of_z {w = w32} (record { sfits = turn.type_inv })
    ∙ back
    ∙ turned_is_pattern binary32 c.args.key c.ranges.key
    (sym (ap (λ y. is_nan (from_bits binary32 (of_z w32 y))) back)
    ∙ nan_told binary32 turn.result c.narrow_size.result false (record { sfits = turn.type_inv })
    c.narrow_size.ensures c.if-narrow_size-gt-NARROW_INFINITY.false)
