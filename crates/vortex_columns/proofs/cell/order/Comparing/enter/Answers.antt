use Rattle.std.proofs.Common.{◌≡◌, ◌+◌, sym, ap, ◌∙◌, arith}
use Rattle.std.specs.Ordering.{ordering_then}
use Rattle.vortex_columns.specs.Cells.{sequence_values}
use Rattle.vortex_columns.specs.PairOrder.{compare_from, order_at, shared}
use Rattle.vortex_columns.proofs.Compare.{inside, at_end}
use Rattle.vortex_columns.proofs.cell.order.Comparing.enter.Goals as goal

pub returns-then-k-shared-clause-order : goal.returns-then-k-shared-clause-order
returns-then-k-shared-clause-order c =
    let self = c.args.self.now in
    let k = c.args.k in
    let last : shared self ≡ k + 1 = omega arith in
    let here = compare_from 0 (sequence_values c.args.left) (sequence_values c.args.right) in
    ap (ordering_then here)
    (c.on_end.ensures ∙ sym (at_end self) ∙ ap (λ n. order_at n self) last)
    ∙ inside k self c.args.left c.args.right c.requires.k_in c.requires.left_there
    c.requires.right_there
