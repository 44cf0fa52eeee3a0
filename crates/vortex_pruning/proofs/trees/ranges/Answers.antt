use Rattle.std.proofs.Common.{◌≡◌, Option, length, arith, subst}
use Rattle.std.specs.Prelude.{IfSome, ⊤}
use Rattle.std.proofs.lemmas.Result.{err_from_is_err_and}
use Rattle.vortex_errors.specs.Answers.{UnlessMemory}
use Rattle.vortex_interface.specs.Trees.{children_of}
use Rattle.vortex_functions.proofs.Chains.{chain_refuses, descended, risen}
use Rattle.vortex_ranges.specs.declared.range.Range.{Range}
use Rattle.vortex_ranges.specs.BoundViews.{range_of}
use Rattle.vortex_pruning.specs.Knowing.{Knows, RefusesLeaves}
use Rattle.vortex_pruning.proofs.LeafSteps.{leaf_done, leaf_refused}
use Rattle.vortex_pruning.proofs.TreesKnown.{refusal_upward}
use Rattle.vortex_pruning.proofs.trees.ranges.Goals as goal

pub loop-step-preserved-then-len-children : goal.loop-step-preserved-then-len-children
loop-step-preserved-then-len-children g c =
    let m = g.C.ScalarFnVTable.meaning in
    let ss = c.args.statistics.now in
    let n = c.args.rows in
    let k = c.len-then-len-children.result in
    let same : length c.loop-step.inputs.items ≡ k = omega arith in
    rw (c.in_ok-push-2.ensures.items, c.new-inputs-then-len-children.ensures.items)
    (descended children_of (λ t. ⊤) (λ t r. Knows m n ss t (range_of r)) c.args.tree.now
    c.child-child.result.now c.loop-step.above.items _ k c.loop-step.invariant same
    c.child-child.ensures.child tt)

-- a node that is done at once, without a frame of its own
pub loop-step-preserved-in-Some : goal.loop-step-preserved-in-Some
loop-step-preserved-in-Some g c =
    let m = g.C.ScalarFnVTable.meaning in
    let ss = c.args.statistics.now in
    let n = c.args.rows in
    let k = c.len-then-len-children.result in
    let child = c.child-child.result.now in
    let same : length c.loop-step.inputs.items ≡ k = omega arith in
    let known = subst (λ (o : Option Range). IfSome o (λ r. Knows m n ss child (range_of r)))
    c.in-Some.is c.in_ok-output.ensures in
    leaf_done children_of (λ t. ⊤) (λ t r. Knows m n ss t (range_of r)) c.args.tree.now
    child c.loop-step.above.items
    (record { node = c.loop-step.node; outputs = c.loop-step.inputs }) k c.loop-step.invariant same
    c.child-child.ensures.child tt _ c.in-Some.output known c.in_ok-push.ensures.items

pub loop-step-preserved : goal.loop-step-preserved
loop-step-preserved g c =
    let m = g.C.ScalarFnVTable.meaning in
    let ss = c.args.statistics.now in
    let n = c.args.rows in
    risen children_of (λ t. ⊤) (λ t r. Knows m n ss t (range_of r)) c.args.tree.now
    c.loop-step.node.now c.loop-step.above.items c.pop.new.self.items c.in-Some-pop.parent
    c.push-in-loop-step.new.self.items c.in_ok-output-2.output c.loop-step.invariant.0
    c.in-Some-pop.ensures.items c.in_ok-output-2.ensures
    c.in_ok-push-3.ensures.items

-- a node that is refused is the tree's refusal
pub returns-in_err-output : goal.returns-in_err-output
returns-in_err-output g c =
    let m = g.C.ScalarFnVTable.meaning in
    let ss = c.args.statistics.now in
    let n = c.args.rows in
    let k = c.len-then-len-children.result in
    let same : length c.loop-step.inputs.items ≡ k = omega arith in
    let p = err_from_is_err_and c.from_residual.result c.from_residual.ensures.1 in
    rw (p.1, p.2)
    (leaf_refused children_of (λ t. ⊤) (λ t r. Knows m n ss t (range_of r)) c.args.tree.now
    c.child-child.result.now c.loop-step.above.items
    (record { node = c.loop-step.node; outputs = c.loop-step.inputs }) k c.loop-step.invariant same
    c.child-child.ensures.child tt (λ t. UnlessMemory (RefusesLeaves ss t))
    (refusal_upward m n ss) _ c.in_err-output.ensures)

pub returns-in_err-output-2 : goal.returns-in_err-output-2
returns-in_err-output-2 g c =
    let m = g.C.ScalarFnVTable.meaning in
    let ss = c.args.statistics.now in
    let n = c.args.rows in
    let p =
    err_from_is_err_and c.from_residual-in_err-output-2.result
    c.from_residual-in_err-output-2.ensures.1 in
    rw (p.1, p.2)
    (chain_refuses children_of (λ t. ⊤) (λ t r. Knows m n ss t (range_of r))
    (λ t. UnlessMemory (RefusesLeaves ss t)) (refusal_upward m n ss) c.args.tree.now
    c.loop-step.node.now c.loop-step.above.items _
    c.loop-step.invariant.0 c.in_err-output-2.ensures)
