use Rattle.std.proofs.Common.{◌+◌, sym, ◌∙◌}
use Rattle.vortex_statistics.specs.Extremes.{lower_row, higher_row}
use Rattle.vortex_statistics.proofs.Widening.{widened, passed, at_rows}
use Rattle.vortex_statistics.proofs.extremes.extremes.Goals as goal
use Rattle.vortex_statistics.proofs.extremes.extremes.Goals.{then-bit, else-bit}

pub loop-i-preserved : goal.loop-i-preserved
loop-i-preserved g c =
    let counts = g.V.RowBits.row_bit c.args.valid.now in
    let value = g.R.RowOrder.row_value c.args.rows.now in
    let i = c.loop-i.i in
    let low = c.loop-i.low in
    let high = c.loop-i.high in
    elim c.if-bit.branch [
      | then-bit w ↦
          at_rows c.args.len (i + 1) counts value (lower_row value low i) (higher_row value high i)
          c.if-bit.low c.if-bit.high (w.low-is ∙ w.lower_row-low.ensures)
          (w.high-is ∙ w.higher_row-high.ensures)
          (widened c.args.len i counts value low high
          (record { within = c.loop-i-test.true; counted = sym c.bit.ensures ∙ w.if-bit.true })
          c.loop-i.invariant)
      | else-bit w ↦
          at_rows c.args.len (i + 1) counts value low high c.if-bit.low c.if-bit.high w.low-is
          w.high-is
          (passed c.args.len i counts value low high (sym c.bit.ensures ∙ w.if-bit.false)
          c.loop-i.invariant)
    ]
