use Rattle.std.proofs.Common.{◌≡◌, ◌≤◌, ◌<◌, ◌++◌, length, sym, ap, ◌∙◌, subst, arith, List}
use Rattle.std.proofs.Common.{string_bytes, rules, []}
use Rattle.vortex_columns.specs.Cells.{cell_value, sequence_values}
use Rattle.vortex_columns.specs.SingleValue.{single_value}
use Rattle.vortex_columns.specs.Printing.{value_text}
use Rattle.vortex_columns.specs.ColumnView.{row}
use Rattle.vortex_columns.specs.Shapes.{shape_type}
use Rattle.vortex_columns.specs.WrittenValues.{count_written}
use Rattle.vortex_columns.specs.declared.value_text.Writing.{Writing}
use Rattle.vortex_columns.specs.ValueSizes.{size_from}
use Rattle.vortex_columns.proofs.WrittenFrames.{rest, rests, AreThere, after_next, there_one_more}
use Rattle.vortex_columns.proofs.WrittenFrames.{there_one_less, count_within, entered, left}
use Rattle.vortex_columns.proofs.WrittenFrames.{one_written, finished, less_entered}
use Rattle.vortex_columns.proofs.WrittenFrames.{less_left}
use Rattle.vortex_columns.proofs.value_text.write_sequence.Goals as goal

pub loop-current-smaller-in-Sequence : goal.loop-current-smaller-in-Sequence
loop-current-smaller-in-Sequence c =
    let l = c.loop-current in
    let f = l.current in
    let within = count_within (shape_type f.shape) (sequence_values f.values) in
    let h : f.next < length (sequence_values f.values) =
    omega (arith, within, c.count.ensures, c.if-current-count.true) in
    rw (c.in_ok-push-in-Sequence.ensures.items, c.in_ok-current-in-Sequence.ensures.0)
    (less_entered l.above.items f c.in-Sequence.values h c.in-Sequence.ensures.value)

pub loop-current-preserved-in-Sequence : goal.loop-current-preserved-in-Sequence
loop-current-preserved-in-Sequence c =
    let l = c.loop-current in
    let f = l.current in
    let h : f.next < count_written (shape_type f.shape) (sequence_values f.values) =
    omega (arith, c.count.ensures, c.if-current-count.true) in
    rw (c.in_ok-push-in-Sequence.ensures.items, c.in_ok-current-in-Sequence.ensures.0) (
      entered c.args.typed l.above.items f c.in-Sequence.values c.in_ok-inner.inner
          (string_bytes l.out) (string_bytes c.write_before.new.out)
          (string_bytes c.begin-in-Sequence.new.out) h c.in-Sequence.ensures.value
          c.in_ok-inner.ensures.0 c.in_ok-inner.ensures.1 c.in_ok-current-in-Sequence.ensures.1
          ∙ l.invariant.0,
      c.in-Sequence.ensures.whole,
      there_one_more l.above.items (after_next f) l.invariant.2 l.invariant.1,
    )

pub loop-current-preserved-in_default : goal.loop-current-preserved-in_default
loop-current-preserved-in_default c =
    let l = c.loop-current in
    let f = l.current in
    let h : f.next < count_written (shape_type f.shape) (sequence_values f.values) =
    omega (arith, c.count.ensures, c.if-current-count.true) in
    let single : single_value (cell_value c.get.result)
    ≡ row (sequence_values f.values) f.next =
    search (rules, c.in_default.not-Sequence, c.get.ensures.value) in (
      one_written c.args.typed f (string_bytes l.out) (string_bytes c.write_before.new.out)
          (string_bytes c.write_single.new.out) (rests c.args.typed l.above.items) h
          c.in_ok-inner.ensures.1
          (c.in_ok-write_single-in_default.ensures
          ∙ (λ i.
          string_bytes c.write_before.new.out
          ++ value_text c.args.typed (c.in_ok-inner.ensures.0 i) (single i)))
          ∙ l.invariant.0,
      l.invariant.1,
      l.invariant.2,
    )

pub returns-in_default-pop : goal.returns-in_default-pop
returns-in_default-pop c =
    let l = c.loop-current in
    let h : count_written (shape_type l.current.shape) (sequence_values l.current.values)
    ≤ l.current.next = omega (arith, c.count.ensures, c.if-current-count.false) in
    let none : l.above.items ≡ [] = search (rules, c.in_default-pop.ensures.items) in
    finished c.args.typed l.current (string_bytes l.out) (string_bytes c.end.new.out) h
    c.in_ok-end.ensures
    ∙ ap (λ gs. string_bytes l.out ++ (rest c.args.typed l.current ++ rests c.args.typed gs))
    (sym none)
    ∙ l.invariant.0

pub loop-current-smaller : goal.loop-current-smaller
loop-current-smaller c =
    let l = c.loop-current in
    less_left l.above.items c.pop.new.self.items c.in-Some.parent
    (size_from l.current.next l.current.values) c.in-Some.ensures.items

pub loop-current-preserved : goal.loop-current-preserved
loop-current-preserved c =
    let l = c.loop-current in
    let fs = c.pop.new.self.items in
    let h : count_written (shape_type l.current.shape) (sequence_values l.current.values)
    ≤ l.current.next = omega (arith, c.count.ensures, c.if-current-count.false) in
    let there =
    there_one_less fs c.in-Some.parent
    (subst (λ (gs : List Writing). AreThere gs) c.in-Some.ensures.items l.invariant.2) in (
      left c.args.typed fs c.in-Some.parent l.current (string_bytes l.out)
          (string_bytes c.end.new.out) h c.in_ok-end.ensures
          ∙ ap (λ gs. string_bytes l.out ++ (rest c.args.typed l.current ++ rests c.args.typed gs))
          (sym c.in-Some.ensures.items)
          ∙ l.invariant.0,
      there.1,
      there.0,
    )
