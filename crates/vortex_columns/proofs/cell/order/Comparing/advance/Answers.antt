use Rattle.std.proofs.Common.{◌≡◌, sym, ap, ◌∙◌, arith}
use Rattle.vortex_columns.specs.PairOrder.{order_at, shared}
use Rattle.vortex_columns.proofs.Compare.{at_end}
use Rattle.vortex_columns.proofs.cell.order.Comparing.advance.Goals as goal

pub returns-clause-order : goal.returns-clause-order
returns-clause-order c =
    let self = c.args.self.now in
    let all : shared self ≡ c.loop-k.k = omega arith in
    c.on_end.ensures ∙ sym (at_end self) ∙ ap (λ n. order_at n self) all ∙ c.loop-k.invariant.0
