use Rattle.std.proofs.Common.{◌≡◌, Some, None, sym, ap, ◌∙◌, length, arith}
use Rattle.vortex_interface.specs.Driver.{step}
use Rattle.vortex_rewriting.specs.Frames.{plug, frames_in}
use Rattle.vortex_rewriting.proofs.Walking.{of_some, begins, next_is, passes, passes_fewer}
use Rattle.vortex_rewriting.proofs.Walking.{descends, descends_fewer, all_done, step_made, ends}
use Rattle.vortex_rewriting.proofs.Walking.{rises, rises_fewer, node_typed}
use Rattle.vortex_rewriting.proofs.driver.seek.Goals as goal

pub loop-done-init : goal.loop-done-init
loop-done-init g c =
    let tree = g.L.Leaf.tree_of in
    let rows = g.L.Leaf.context_of in
    begins tree g.L.Leaf.rule rows c.args.above.items c.args.node
    c.new-done.result.items c.requires.frames c.requires.same_rows c.new-done.ensures.items

pub loop-done-smaller-in-Continue-branch-3 : goal.loop-done-smaller-in-Continue-branch-3
loop-done-smaller-in-Continue-branch-3 g c =
    let tree = g.L.Leaf.tree_of in
    let l = c.loop-done in
    let at = next_is tree (tree l.node) l.done.items c.deref.result.now c.in_ok-child.field-0
    c.in-Some.child c.deref.ensures.value c.in_ok-child.ensures.answer c.in-Some.is in
    passes_fewer tree l.above.items l.node l.done.items c.push.new.self.items c.in-Some.child at
    c.in_ok-push-in-Some.ensures.items

pub loop-done-preserved-in-Continue-branch-3 : goal.loop-done-preserved-in-Continue-branch-3
loop-done-preserved-in-Continue-branch-3 g c =
    let tree = g.L.Leaf.tree_of in
    let rows = g.L.Leaf.context_of in
    let l = c.loop-done in
    let at = next_is tree (tree l.node) l.done.items c.deref.result.now c.in_ok-child.field-0
    c.in-Some.child c.deref.ensures.value c.in_ok-child.ensures.answer c.in-Some.is in
    passes tree g.L.Leaf.rule rows c.args.above.items c.args.node
    l.above.items l.node l.done.items c.push.new.self.items c.in-Some.child l.invariant at
    (c.is_settled.ensures c.if-is_settled.true)
    (of_some (λ t. rows t ≡ rows l.node) c.in_ok-child.field-0 c.in-Some.child
    c.in_ok-child.ensures.same_rows c.in-Some.is)
    c.in_ok-push-in-Some.ensures.items

pub loop-done-smaller-else-is_settled : goal.loop-done-smaller-else-is_settled
loop-done-smaller-else-is_settled g c =
    let tree = g.L.Leaf.tree_of in
    let l = c.loop-done in
    let at = next_is tree (tree l.node) l.done.items c.deref.result.now c.in_ok-child.field-0
    c.in-Some.child c.deref.ensures.value c.in_ok-child.ensures.answer c.in-Some.is in
    descends_fewer tree l.above.items c.push-else-is_settled.new.self.items
    (record { node = l.node; done = l.done }) c.in-Some.child
    c.new-done-else-is_settled.result.items at c.in_ok-push-in-Some-2.ensures.items
    c.new-done-else-is_settled.ensures.items

pub loop-done-preserved-else-is_settled : goal.loop-done-preserved-else-is_settled
loop-done-preserved-else-is_settled g c =
    let tree = g.L.Leaf.tree_of in
    let rows = g.L.Leaf.context_of in
    let l = c.loop-done in
    let at = next_is tree (tree l.node) l.done.items c.deref.result.now c.in_ok-child.field-0
    c.in-Some.child c.deref.ensures.value c.in_ok-child.ensures.answer c.in-Some.is in
    descends tree g.L.Leaf.rule rows c.args.above.items c.args.node
    l.above.items c.push-else-is_settled.new.self.items (record { node = l.node; done = l.done })
    c.in-Some.child
    c.new-done-else-is_settled.result.items l.invariant at
    (of_some (λ t. rows t ≡ rows l.node) c.in_ok-child.field-0 c.in-Some.child
    c.in_ok-child.ensures.same_rows c.in-Some.is)
    c.in_ok-push-in-Some-2.ensures.items
    c.new-done-else-is_settled.ensures.items

pub over_children-requires-clause-typed : goal.over_children-requires-clause-typed
over_children-requires-clause-typed g c =
    let tree = g.L.Leaf.tree_of in
    let rows = g.L.Leaf.context_of in
    let l = c.loop-done in
    node_typed tree g.L.Leaf.rule rows c.args.above.items c.args.node
    g.C.ScalarFnVTable.meaning l.above.items l.node l.done.items l.invariant c.requires.typed

pub returns-in-Some-2-clause-answer : goal.returns-in-Some-2-clause-answer
returns-in-Some-2-clause-answer g c =
    let tree = g.L.Leaf.tree_of in
    let rows = g.L.Leaf.context_of in
    let l = c.loop-done in
    let whole = c.in_ok-whole-in-None.whole in
    let all = all_done tree (tree l.node) l.done.items c.deref.result.now c.in_ok-child.field-0
    c.deref.ensures.value c.in_ok-child.ensures.answer c.in-None.is in (
      l.invariant.frames,
      sym l.invariant.same
          ∙ ap (plug (frames_in tree l.above.items)) (sym c.in_ok-whole-in-None.ensures.0),
      step_made tree g.L.Leaf.rule rows c.args.above.items c.args.node
          l.above.items l.node whole l.done.items c.in_ok-made-in-None.field-0
          (Some c.in-Some-2.made) l.invariant c.in_ok-whole-in-None.ensures.0 all
          c.in_ok-made-in-None.ensures.0 c.in-Some-2.is,
    )

pub mark_settled-requires : goal.mark_settled-requires
mark_settled-requires g c =
    let tree = g.L.Leaf.tree_of in
    let rows = g.L.Leaf.context_of in
    let l = c.loop-done in
    let all = all_done tree (tree l.node) l.done.items c.deref.result.now c.in_ok-child.field-0
    c.deref.ensures.value c.in_ok-child.ensures.answer c.in-None.is in
    step_made tree g.L.Leaf.rule rows c.args.above.items
    c.args.node l.above.items l.node c.in_ok-whole-in-None.whole l.done.items
    c.in_ok-made-in-None.field-0 None l.invariant c.in_ok-whole-in-None.ensures.0 all
    c.in_ok-made-in-None.ensures.0 c.in_default.is

pub returns-in_default-pop-clause-answer : goal.returns-in_default-pop-clause-answer
returns-in_default-pop-clause-answer g c =
    let tree = g.L.Leaf.tree_of in
    let rows = g.L.Leaf.context_of in
    let rule = g.L.Leaf.rule in
    let l = c.loop-done in
    let all = all_done tree (tree l.node) l.done.items c.deref.result.now c.in_ok-child.field-0
    c.deref.ensures.value c.in_ok-child.ensures.answer c.in-None.is in
    let settled = step_made tree rule rows c.args.above.items c.args.node
    l.above.items l.node c.in_ok-whole-in-None.whole l.done.items c.in_ok-made-in-None.field-0 None
    l.invariant c.in_ok-whole-in-None.ensures.0 all c.in_ok-made-in-None.ensures.0
    c.in_default.is in
    ends tree rule rows c.args.above.items c.args.node l.above.items l.node
    c.mark_settled.new.self l.done.items l.invariant
    (omega (arith, c.in_default-pop.ensures.cases.0))
    (ap tree c.mark_settled.ensures ∙ c.in_ok-whole-in-None.ensures.0)
    (ap (λ t. step rule (tree t)) c.mark_settled.ensures ∙ settled)

pub loop-done-smaller : goal.loop-done-smaller
loop-done-smaller g c =
    let l = c.loop-done in
    rises_fewer g.L.Leaf.tree_of l.above.items c.pop.new.self.items c.in-Some-pop.parent l.node
    c.mark_settled.new.self (length l.done.items) c.push-in-None.new.self.items
    c.in-Some-pop.ensures.items c.in_ok-push-in-None.ensures.items

pub loop-done-preserved : goal.loop-done-preserved
loop-done-preserved g c =
    let tree = g.L.Leaf.tree_of in
    let rows = g.L.Leaf.context_of in
    let rule = g.L.Leaf.rule in
    let l = c.loop-done in
    let all = all_done tree (tree l.node) l.done.items c.deref.result.now c.in_ok-child.field-0
    c.deref.ensures.value c.in_ok-child.ensures.answer c.in-None.is in
    let settled = step_made tree rule rows c.args.above.items c.args.node
    l.above.items l.node c.in_ok-whole-in-None.whole l.done.items c.in_ok-made-in-None.field-0 None
    l.invariant c.in_ok-whole-in-None.ensures.0 all c.in_ok-made-in-None.ensures.0
    c.in_default.is in
    rises tree rule rows c.args.above.items c.args.node l.above.items c.pop.new.self.items
    c.in-Some-pop.parent l.node c.mark_settled.new.self l.done.items c.push-in-None.new.self.items
    l.invariant (ap tree c.mark_settled.ensures ∙ c.in_ok-whole-in-None.ensures.0)
    (ap (λ t. step rule (tree t)) c.mark_settled.ensures ∙ settled)
    (ap rows c.mark_settled.ensures ∙ c.in_ok-whole-in-None.ensures.1)
    c.in-Some-pop.ensures.items c.in_ok-push-in-None.ensures.items
