use Rattle.std.proofs.Common.{◌∙◌, ap, sym, get_or, pos, to_z, of_z, w64, to_z-of_z}
use Rattle.std.specs.Prelude.{is_nan}
use Rattle.std.specs.Ordering.{int_cmp, nan_last_cmp}
use Rattle.vortex_float_bits.specs.FloatBits.{wide_key}
use Rattle.vortex_operators.specs.OperatorValues.{holds}
use Rattle.yurkije_lent.proofs.FloatOrders.{key_order}
use Rattle.yurkije_lent.proofs.float_words.patterns_hold_with.Goals as goal

pub floats_hold-requires-clause-right_numbers : goal.floats_hold-requires-clause-right_numbers
floats_hold-requires-clause-right_numbers g c = λ j lt.
    ap is_nan (c.repeated.ensures.each j lt ∙ c.wide_float.ensures)
    ∙ sym c.is_nan.ensures
    ∙ c.if-is_nan.false

pub returns : goal.returns
returns g c = λ j lt.
    let left = get_or c.args.left.now j (pos 0) in
    let right = to_z w64 (of_z w64 c.turn_wide-right.result) in
    c.floats_hold.ensures j lt
    ∙ (λ i.
    holds g.P.Comparison.operator
    (nan_last_cmp (c.floats_of.ensures.each j lt i)
    ((c.repeated.ensures.each j lt ∙ c.wide_float.ensures) i)))
    ∙ ap (holds g.P.Comparison.operator)
    (key_order c.keys_are_ordered.ensures left right
    ∙ ap (int_cmp (wide_key left))
    (c.is_key_of.ensures c.if-not-is_key_of.false ∙ to_z-of_z c.ranges.key))
