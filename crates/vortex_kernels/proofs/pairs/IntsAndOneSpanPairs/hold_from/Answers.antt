use Rattle.std.proofs.Common.{arith, ◌∙◌}
use Rattle.std.specs.Ordering.{int_cmp}
use Rattle.vortex_operators.specs.OperatorValues.{holds}
use Rattle.vortex_kernels.proofs.LaneWords.{row_of_part}
use Rattle.vortex_kernels.proofs.pairs.IntsAndOneSpanPairs.hold_from.Goals as goal

pub slice_bounds-of_integers_with-end : goal.slice_bounds-of_integers_with-end
slice_bounds-of_integers_with-end g c = omega (arith, c.requires.pairs 63 (omega arith))

pub returns : goal.returns
returns g c = λ j lt.
    let f = g.T.NativePType.number in
    let pairs = c.args.self.now in
    c.of_integers_with.ensures j lt
    ∙ (λ i.
    holds g.P.Comparison.operator
    (int_cmp (row_of_part f pairs.left.now c.args.at 64 j lt i) (f pairs.right)))
