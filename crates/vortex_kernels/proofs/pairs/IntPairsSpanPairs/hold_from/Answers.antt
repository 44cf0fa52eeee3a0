use Rattle.std.proofs.Common.{arith, ◌∙◌}
use Rattle.std.specs.Ordering.{int_cmp}
use Rattle.vortex_operators.specs.OperatorValues.{holds}
use Rattle.vortex_kernels.proofs.LaneWords.{row_of_part}
use Rattle.vortex_kernels.proofs.pairs.IntPairsSpanPairs.hold_from.Goals as goal

pub slice_bounds-of_integers-end : goal.slice_bounds-of_integers-end
slice_bounds-of_integers-end g c = omega (arith, (c.requires.pairs 63 (omega arith)).0)

pub slice_bounds-of_integers-end-2 : goal.slice_bounds-of_integers-end-2
slice_bounds-of_integers-end-2 g c = omega (arith, (c.requires.pairs 63 (omega arith)).1)

pub returns : goal.returns
returns g c = λ j lt.
    let f = g.T.NativePType.number in
    let pairs = c.args.self.now in
    c.of_integers.ensures j lt
    ∙ (λ i.
    holds g.P.Comparison.operator
    (int_cmp (row_of_part f pairs.left.now c.args.at 64 j lt i)
    (row_of_part f pairs.right.now c.args.at 64 j lt i)))
