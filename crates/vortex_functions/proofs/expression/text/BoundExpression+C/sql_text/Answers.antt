use Rattle.std.proofs.Common.{string_bytes, arith, ap, length}
use Rattle.vortex_functions.proofs.WrittenTexts.{writes_first, past_costs, written_past}
use Rattle.vortex_functions.proofs.WrittenTexts.{said_costs, written_said, begun_costs}
use Rattle.vortex_functions.proofs.WrittenTexts.{written_begun}
use Rattle.vortex_functions.proofs.expression.text.BoundExpression+C.sql_text.Goals as goal

pub loop-last-init : goal.loop-last-init
loop-last-init g c =
    writes_first c.args.self (string_bytes c.new-out.result) c.new-above.result.items
    c.push.new.self.items c.new-out.ensures.bytes c.new-above.ensures.items
    c.in_ok-push.ensures.items

pub loop-last-smaller : goal.loop-last-smaller
loop-last-smaller g c =
    past_costs c.loop-last.above.items c.pop.new.self.items c.in-Some.last c.in-Some.ensures.items

pub loop-last-preserved : goal.loop-last-preserved
loop-last-preserved g c =
    written_past c.loop-last.above.items c.pop.new.self.items c.in-Some.last c.in-Some.ensures.items
    c.args.self.now (string_bytes c.loop-last.out) c.loop-last.invariant
    (omega (arith, ap length c.children.ensures.children, c.if-last-children.false))

pub loop-last-smaller-in_default-2 : goal.loop-last-smaller-in_default-2
loop-last-smaller-in_default-2 g c =
    said_costs c.loop-last.above.items c.pop.new.self.items c.in-Some.last c.in-Some.ensures.items
    c.push-then-last-children.new.self.items
    (omega (arith, ap length c.children.ensures.children, c.if-last-children.true))
    c.in_ok-push-2.ensures.items

pub loop-last-preserved-in_default-2 : goal.loop-last-preserved-in_default-2
loop-last-preserved-in_default-2 g c =
    written_said c.loop-last.above.items c.pop.new.self.items c.in-Some.last c.in-Some.ensures.items
    c.push-then-last-children.new.self.items
    (omega (arith, ap length c.children.ensures.children, c.if-last-children.true))
    c.in_ok-push-2.ensures.items c.args.self.now c.loop-last.out c.write_part.new.out _
    c.loop-last.invariant c.in_ok-child.ensures c.in_default-2.is

pub loop-last-smaller-in-Continue-branch-5 : goal.loop-last-smaller-in-Continue-branch-5
loop-last-smaller-in-Continue-branch-5 g c =
    begun_costs c.loop-last.above.items c.pop.new.self.items c.in-Some.last c.in-Some.ensures.items
    c.push-then-last-children.new.self.items
    (omega (arith, ap length c.children.ensures.children, c.if-last-children.true))
    c.in_ok-push-2.ensures.items c.args.self.now c.loop-last.out c.write_part.new.out _
    c.loop-last.invariant c.in_ok-child.ensures c.in-Some-2.child c.in-Some-2.is
    c.push-in-Some-2.new.self.items c.in_ok-push-3.ensures.items

pub loop-last-preserved-in-Continue-branch-5 : goal.loop-last-preserved-in-Continue-branch-5
loop-last-preserved-in-Continue-branch-5 g c =
    written_begun c.loop-last.above.items c.pop.new.self.items c.in-Some.last
    c.in-Some.ensures.items c.push-then-last-children.new.self.items
    (omega (arith, ap length c.children.ensures.children, c.if-last-children.true))
    c.in_ok-push-2.ensures.items c.args.self.now c.loop-last.out c.write_part.new.out _
    c.loop-last.invariant c.in_ok-child.ensures c.in-Some-2.child c.in-Some-2.is
    c.push-in-Some-2.new.self.items c.in_ok-push-3.ensures.items
