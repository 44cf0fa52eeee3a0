use Rattle.std.proofs.Common.{◌≡◌, ◌≤◌, ◌<◌, length, sym, ap, ◌∙◌, subst, arith, Some, List}
use Rattle.vortex_types.specs.declared.scalar_value.ScalarValue.{List as ListValue}
use Rattle.vortex_columns.specs.ColumnView.{row}
use Rattle.vortex_columns.specs.Cells.{sequence_value, sequence_values}
use Rattle.vortex_columns.specs.declared.cell.Copying.{Copying}
use Rattle.vortex_columns.proofs.Copied.{focus, plug, AreThere, there_one_more, there_one_less}
use Rattle.vortex_columns.proofs.Copied.{entered, left, less_entered, less_left}
use Rattle.vortex_columns.proofs.cell.copy_values.Goals as goal

pub loop-values-smaller-in-Sequence : goal.loop-values-smaller-in-Sequence
loop-values-smaller-in-Sequence c =
    let l = c.loop-values in
    let vs = sequence_values l.values in
    let f : Copying = record { values = l.values; copies = l.copies } in
    let h : length l.copies.items < length vs = omega arith in
    let n : c.len-then-len.result ≡ length l.copies.items = omega arith in
    let e : sequence_value c.in-Sequence.inner ≡ row vs (length l.copies.items) =
    c.in-Sequence.ensures.value ∙ ap (row vs) n in
    rw (c.in_ok-push-in-Sequence.ensures.items, c.new-copies-in-Sequence.ensures.items)
    (less_entered l.above.items f c.in-Sequence.inner h e)

pub loop-values-preserved-in-Sequence : goal.loop-values-preserved-in-Sequence
loop-values-preserved-in-Sequence c =
    let l = c.loop-values in
    let vs = sequence_values l.values in
    let f : Copying = record { values = l.values; copies = l.copies } in
    let h : length l.copies.items < length vs = omega arith in
    let n : c.len-then-len.result ≡ length l.copies.items = omega arith in
    let e : sequence_value c.in-Sequence.inner ≡ row vs (length l.copies.items) =
    c.in-Sequence.ensures.value ∙ ap (row vs) n in (
      rw (c.in_ok-push-in-Sequence.ensures.items, c.new-copies-in-Sequence.ensures.items)
          (entered l.above.items f c.in-Sequence.inner h e ∙ l.invariant.0),
      c.in-Sequence.ensures.whole,
      rw (c.in_ok-push-in-Sequence.ensures.items)
          (there_one_more l.above.items f l.invariant.2 l.invariant.1),
    )

pub loop-values-smaller : goal.loop-values-smaller
loop-values-smaller c =
    less_left c.loop-values.above.items c.pop.new.self.items c.in-Some.parent
    c.push-else-len.new.self.items (Some (ListValue c.loop-values.copies)) _
    c.in-Some.ensures.items c.in_ok-push.ensures.items

pub loop-values-preserved : goal.loop-values-preserved
loop-values-preserved c =
    let l = c.loop-values in
    let fs = c.pop.new.self.items in
    let h : length (sequence_values l.values) ≤ length l.copies.items = omega arith in
    let there =
    there_one_less fs c.in-Some.parent
    (subst (λ (gs : List Copying). AreThere gs) c.in-Some.ensures.items l.invariant.2) in (
      ap (λ xs. plug fs (focus c.in-Some.parent.values xs)) c.in_ok-push.ensures.items
          ∙ left fs c.in-Some.parent l.values l.copies h
          ∙ ap (λ gs. plug gs (focus l.values l.copies.items)) (sym c.in-Some.ensures.items)
          ∙ l.invariant.0,
      there.1,
      there.0,
    )
