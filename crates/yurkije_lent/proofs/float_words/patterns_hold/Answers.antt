use Rattle.std.proofs.Common.{◌∙◌, ap, get_or, pos}
use Rattle.std.specs.Ordering.{nan_last_cmp}
use Rattle.vortex_operators.specs.OperatorValues.{holds}
use Rattle.yurkije_lent.proofs.FloatOrders.{key_order}
use Rattle.yurkije_lent.proofs.float_words.patterns_hold.Goals as goal

pub returns : goal.returns
returns g c = λ j lt.
    c.floats_hold.ensures j lt
    ∙ (λ i.
    holds g.P.Comparison.operator
    (nan_last_cmp (c.floats_of.ensures.each j lt i) (c.floats_of-2.ensures.each j lt i)))
    ∙ ap (holds g.P.Comparison.operator)
    (key_order c.keys_are_ordered.ensures (get_or c.args.left.now j (pos 0))
    (get_or c.args.right.now j (pos 0)))
