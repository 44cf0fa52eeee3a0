use Rattle.std.proofs.Common.{◌≡◌, ◌++◌, List, [], ◌∷◌, sym, ap, ◌∙◌, subst, arith}
use Rattle.std.specs.Ordering.{ordering_then}
use Rattle.vortex_columns.specs.PairOrder.{order_from, pairs_in}
use Rattle.vortex_columns.specs.declared.cell.order.Comparing.{Comparing}
use Rattle.vortex_columns.proofs.Compare.{then_next}
use Rattle.vortex_columns.proofs.PairsAround.{AreAround, order_around, size_around, pushed, popped}
use Rattle.vortex_columns.proofs.PairsAround.{order_pushed, size_pushed}
use Rattle.vortex_columns.proofs.cell.order.Comparing.+order.Goals as goal

pub loop-above-smaller-in-Some : goal.loop-above-smaller-in-Some
loop-above-smaller-in-Some t c =
    let less = ap size_around c.in-Some.ensures in
    omega (arith, less, size_pushed (pairs_in c.pop.new.self) c.in-Some.outer)

pub loop-above-preserved-in-Some : goal.loop-above-preserved-in-Some
loop-above-preserved-in-Some t c =
    let l = c.loop-above in
    let outer = c.in-Some.outer in
    let rest = pairs_in c.pop.new.self in
    let was : pairs_in l.above ≡ rest ++ outer ∷ [] = c.in-Some.ensures in
    let there =
    popped rest outer (subst (λ (cs : List Comparing). AreAround cs) was l.invariant.2) in
    let less = ap size_around was in (
      sym (order_pushed rest outer) ∙ ap order_around (sym was)
          ∙ ap (λ o. ordering_then o (order_around (pairs_in l.above)))
          (sym c.in-Order-Equal.field-0-is ∙ c.in-Order-Equal.ensures.order)
          ∙ l.invariant.0,
      there.1,
      there.0,
      omega (arith, less, size_pushed rest outer, l.invariant.3),
    )

pub loop-above-smaller-then-push : goal.loop-above-smaller-then-push
loop-above-smaller-then-push t c =
    let more = ap size_around c.if-push.ensures in
    let sizes = size_pushed (pairs_in c.loop-above.above) c.in-Before.outer in
    omega (arith, more, sizes, c.in-Before.ensures.falls)

pub loop-above-preserved-then-push : goal.loop-above-preserved-then-push
loop-above-preserved-then-push t c =
    let l = c.loop-above in
    let inner = c.in-Before.inner in
    let outer = c.in-Before.outer in
    let around = pairs_in l.above in
    let is : pairs_in c.push.new.self ≡ around ++ outer ∷ [] = c.if-push.ensures in
    let more = ap size_around is in
    let sizes = size_pushed around outer in (
      ap (ordering_then (order_from inner)) (ap order_around is ∙ order_pushed around outer)
          ∙ sym (then_next (order_from inner) (order_from outer) (order_around around))
          ∙ ap (λ o. ordering_then o (order_around around)) c.in-Before.ensures.order
          ∙ l.invariant.0,
      c.in-Before.ensures.paired.1,
      subst (λ (cs : List Comparing). AreAround cs) (sym is)
          (pushed around outer l.invariant.2 c.in-Before.ensures.paired.0),
      omega (arith, more, sizes, c.in-Before.ensures.falls, l.invariant.3),
    )
