use Rattle.std.proofs.Common.{◌≡◌, length, arith}
use Rattle.std.specs.Prelude.{⊤}
use Rattle.std.proofs.lemmas.Result.{err_from_is_err_and}
use Rattle.vortex_errors.specs.Answers.{UnlessMemory}
use Rattle.vortex_interface.specs.Trees.{children_of}
use Rattle.vortex_functions.proofs.Chains.{chain_refuses, descended, risen}
use Rattle.vortex_pruning.specs.Knowing.{RefusesLeaves}
use Rattle.vortex_pruning.specs.Residuals.{IsResidual}
use Rattle.vortex_pruning.proofs.TreesLeft.{child_refused}
use Rattle.vortex_pruning.proofs.residuals.residual.Goals as goal

pub loop-step-preserved-then-len-children : goal.loop-step-preserved-then-len-children
loop-step-preserved-then-len-children g c =
    let m = g.C.ScalarFnVTable.meaning in
    let ss = c.args.statistics.now in
    let n = c.args.rows in
    let k = c.len-then-len-children.result in
    let same : length c.loop-step.inputs.items ≡ k = omega arith in
    rw (c.in_ok-push.ensures.items, c.new-inputs-then-len-children.ensures.items)
    (descended children_of (λ t. ⊤) (λ t r. IsResidual m n ss t r) c.args.tree.now
    c.child-child.result.now c.loop-step.above.items _ k c.loop-step.invariant same
    c.child-child.ensures.child tt)

pub loop-step-preserved : goal.loop-step-preserved
loop-step-preserved g c =
    let m = g.C.ScalarFnVTable.meaning in
    let ss = c.args.statistics.now in
    let n = c.args.rows in
    risen children_of (λ t. ⊤) (λ t r. IsResidual m n ss t r) c.args.tree.now
    c.loop-step.node.now c.loop-step.above.items c.pop.new.self.items c.in-Some.parent
    c.push-in-loop-step.new.self.items c.in_ok-output.output c.loop-step.invariant.0
    c.in-Some.ensures.items c.in_ok-output.ensures
    c.in_ok-push-2.ensures.items

-- a leaf that is refused is the tree's refusal
pub returns-in_err-output : goal.returns-in_err-output
returns-in_err-output g c =
    let m = g.C.ScalarFnVTable.meaning in
    let ss = c.args.statistics.now in
    let n = c.args.rows in
    let p =
    err_from_is_err_and c.from_residual-in_err-output.result
    c.from_residual-in_err-output.ensures.1 in
    rw (p.1, p.2)
    (chain_refuses children_of (λ t. ⊤) (λ t r. IsResidual m n ss t r)
    (λ t. UnlessMemory (RefusesLeaves ss t)) (child_refused m n ss) c.args.tree.now
    c.loop-step.node.now c.loop-step.above.items _
    c.loop-step.invariant.0 c.in_err-output.ensures)
