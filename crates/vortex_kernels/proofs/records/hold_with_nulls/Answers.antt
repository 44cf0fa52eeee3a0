use Rattle.std.proofs.Common.{length, arith, cond}
use Rattle.std.specs.Prelude.{◌&&◌}
use Rattle.vortex_bits.specs.Rows.{AreRows}
use Rattle.vortex_bits.specs.Forms.{shifted_bit}
use Rattle.vortex_errors.proofs.Answering.{AnswersUnlessMemory-weaker}
use Rattle.vortex_kernels.specs.Comparison.{AreHeld}
use Rattle.vortex_kernels.specs.PairOrders.{row_orders}
use Rattle.vortex_kernels.specs.Records.{presence_bit}
use Rattle.vortex_kernels.proofs.FieldOrders.{nulls_least_rows}
use Rattle.vortex_kernels.proofs.records.hold_with_nulls.Goals as goal

pub returns : goal.returns
returns g c =
    let l = c.args.lhs.now.rows in
    let r = c.args.rhs.now.rows in
    let op = g.P.Comparison.operator in
    let values = c.in_ok-values.values in
    AnswersUnlessMemory-weaker c.collect_words.result
    (AreRows (length l)
    (λ i.
    cond (presence_bit c.validity_words.result i && presence_bit c.validity_words-2.result i)
    (shifted_bit c.shifted.result i)
    (g.P.WordFormula.says (presence_bit c.validity_words.result i)
    (presence_bit c.validity_words-2.result i))))
    (AreHeld op (row_orders l r) (length l))
    (λ bits are.
    nulls_least_rows op l r (presence_bit c.validity_words.result)
    (presence_bit c.validity_words-2.result) (shifted_bit c.shifted.result) g.P.WordFormula.says values bits c.requires
    c.validity_words.ensures.each
    (λ i lt. c.validity_words-2.ensures.each i (omega (arith, lt, c.requires)))
    c.in_ok-values.ensures
    (λ i lt. c.shifted.ensures.each i (omega (arith, lt, c.in_ok-values.ensures.count)))
    g.met.P.Comparison.of_bits are)
    (rw c.len-len.ensures at c.collect_words.ensures)
