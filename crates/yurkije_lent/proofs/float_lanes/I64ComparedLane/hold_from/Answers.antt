use Rattle.std.proofs.Common.{◌∙◌}
use Rattle.std.specs.Ordering.{int_cmp}
use Rattle.vortex_operators.specs.OperatorValues.{holds}
use Rattle.yurkije_lent.proofs.float_lanes.I64ComparedLane.hold_from.Goals as goal

pub returns-in-None : goal.returns-in-None
returns-in-None g c = λ j lt.
    c.of_integers.ensures j lt
    ∙ (λ i.
    holds g.P.Comparison.operator
    (int_cmp (c.lanes.ensures.each j lt i) (c.lanes-in-None.ensures.each j lt i)))
