use Rattle.std.proofs.Common.{arith, ap, ◌∙◌, ◌+◌, ◌*◌, ◌-◌}
use Rattle.vortex_bits.proofs.Shifts.{down_bit}
use Rattle.vortex_kernels.proofs.spans.SpansBitWords.last.Goals as goal

pub span-requires-clause-place : goal.span-requires-clause-place
span-requires-clause-place g c =
    let there = c.requires.rows 0 c.requires.some in
    omega (arith, there.1.0, there.1.1.0, c.min-at.ensures)

pub returns : goal.returns
returns g c = λ j lt.
    let first = 64 * c.args.k in
    let at = c.min-at.result in
    let there = c.requires.rows j lt in
    down_bit c.span.result (first - at) j
    ∙ c.span.ensures (first - at + j) (omega (arith, there.0, there.1.0, c.min-at.ensures))
    ∙ ap (g.S.RowBits.row_bit c.args.self.now.rows.now)
    (omega (arith, c.min-at.ensures, there.0))
