use Rattle.std.proofs.Common.{◌≡◌, ◌∙◌, sym, ap, ◌<◌, min, arith}
use Rattle.vortex_kernels.proofs.PartOrders.{decided, goes_on, at_end, order_after}
use Rattle.vortex_kernels.proofs.lists.compare_parts.Goals as goal

pub returns-then-is_ne : goal.returns-then-is_ne
returns-then-is_ne g c =
    let ls = g.E.Elements.left c.args.elements.now in
    let rs = g.E.Elements.right c.args.elements.now in
    let k = c.loop-k.k in
    let lt : k < min c.args.left_count c.args.right_count =
    omega (arith, c.loop-k-test.true, c.min-k-end.ensures) in
    decided ls c.args.left c.args.left_count rs c.args.right c.args.right_count c.requires.left
    c.requires.right k lt c.order-order.result c.order-order.ensures c.loop-k.invariant
    (sym c.is_ne.ensures ∙ c.if-is_ne.true)

pub loop-k-preserved : goal.loop-k-preserved
loop-k-preserved g c =
    let ls = g.E.Elements.left c.args.elements.now in
    let rs = g.E.Elements.right c.args.elements.now in
    let k = c.loop-k.k in
    let lt : k < min c.args.left_count c.args.right_count =
    omega (arith, c.loop-k-test.true, c.min-k-end.ensures) in
    goes_on ls c.args.left c.args.left_count rs c.args.right c.args.right_count c.requires.left
    c.requires.right k lt c.order-order.result c.order-order.ensures c.loop-k.invariant
    (sym c.is_ne.ensures ∙ c.if-is_ne.false)

pub returns : goal.returns
returns g c =
    let ls = g.E.Elements.left c.args.elements.now in
    let rs = g.E.Elements.right c.args.elements.now in
    let m = c.args.left_count in
    let n = c.args.right_count in
    let all : min m n ≡ c.loop-k.k = omega (arith, c.loop-k-test.false, c.min-k-end.ensures) in
    c.cmp.ensures
    ∙ at_end ls c.args.left m rs c.args.right n c.requires.left c.requires.right
    (ap (λ k. order_after k ls c.args.left m rs c.args.right n) all ∙ c.loop-k.invariant)
