use Rattle.std.proofs.Common.{arith, length, refl, ◌<◌}
use Rattle.vortex_columns.specs.ValidRows.{valid_view}
use Rattle.vortex_program.proofs.CodedRows.{bit_row, decided_next, open_next}
use Rattle.vortex_program.proofs.coded.rows_after.Goals.{then-has_bit}
use Rattle.vortex_program.proofs.coded.rows_after.Goals.{else-has_bit+else-len-most+in_ok-push}
use Rattle.vortex_program.proofs.coded.rows_after.Goals as goal

pub loop-i-preserved : goal.loop-i-preserved
loop-i-preserved c = elim c.if-has_bit.branch [
  | then-has_bit w ↦
      let i = c.loop-i.i in
      let column = c.args.column.now in
      let lt : i < length column.rows = omega (arith, c.loop-i-test.true, c.len-count.ensures) in
      rw (w.numbers-is, w.codes-is, w.push_reserved.ensures.items)
      (decided_next c.args.wanted column c.args.first c.loop-i.numbers.items c.loop-i.codes.items i
      c.loop-i.invariant c.requires.decided
      (bit_row c.args.wanted column c.args.bits.now (valid_view c.args.valid.now) i c.requires.bits
      c.requires.valid lt (w.if-has_bit.ensures refl)))
  | else-has_bit+else-len-most+in_ok-push w ↦
      let i = c.loop-i.i in
      let column = c.args.column.now in
      let lt : i < length column.rows = omega (arith, c.loop-i-test.true, c.len-count.ensures) in
      rw (w.numbers-is, w.codes-is, w.push_reserved-else-has_bit.ensures.items, w.in_ok-push.ensures.items)
      (open_next c.args.wanted column c.args.first c.loop-i.numbers.items c.loop-i.codes.items i _
      c.loop-i.invariant lt
      (omega (arith, w.len-else-has_bit.ensures, c.loop-i.numbers.ok.0)))
]
