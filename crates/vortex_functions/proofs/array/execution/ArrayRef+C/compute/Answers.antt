use Rattle.std.proofs.Common.{◌≡◌, length, arith}
use Rattle.std.specs.Prelude.{⊤, []}
use Rattle.std.proofs.lemmas.Result.{err_from_is_err_and}
use Rattle.vortex_errors.specs.Answers.{UnlessMemory}
use Rattle.vortex_interface.specs.Eval.{IsFirstFault}
use Rattle.vortex_functions.specs.Arrays.{children_in, rows_in, tree_in}
use Rattle.vortex_functions.specs.ArrayExecuting.{HasArrayRows}
use Rattle.vortex_functions.proofs.Chains.{chain_refuses, descended, descended_fewer, risen}
use Rattle.vortex_functions.proofs.Chains.{risen_fewer}
use Rattle.vortex_functions.proofs.ArrayChildren.{array_nodes, array_and_children}
use Rattle.vortex_functions.proofs.ArrayChildren.{array_fault_upward}
use Rattle.vortex_functions.proofs.array.execution.ArrayRef+C.compute.Goals as goal

pub loop-inputs-smaller-then-len-children : goal.loop-inputs-smaller-then-len-children
loop-inputs-smaller-then-len-children g c =
    let k = c.len-then-len-children.result in
    let same : length c.loop-inputs.inputs.items ≡ k = omega arith in
    rw (c.in_ok-push.ensures.items, c.new-inputs-then-len-children.ensures.items)
    (descended_fewer children_in array_nodes array_and_children c.child-child.result.now
    c.loop-inputs.above.items _ k same c.child-child.ensures.child)

pub loop-inputs-preserved-then-len-children : goal.loop-inputs-preserved-then-len-children
loop-inputs-preserved-then-len-children g c =
    let k = c.len-then-len-children.result in
    let same : length c.loop-inputs.inputs.items ≡ k = omega arith in
    rw (c.in_ok-push.ensures.items, c.new-inputs-then-len-children.ensures.items)
    (descended children_in (λ a. ⊤) (HasArrayRows g.C.ScalarFnVTable.meaning) c.args.self.now
    c.child-child.result.now c.loop-inputs.above.items _ k c.loop-inputs.invariant same
    c.child-child.ensures.child tt)

pub loop-inputs-smaller : goal.loop-inputs-smaller
loop-inputs-smaller g c =
    risen_fewer children_in array_nodes c.loop-inputs.node.now (length c.loop-inputs.inputs.items)
    c.loop-inputs.above.items c.pop.new.self.items c.in-Some.parent
    c.push-else-len-children.new.self.items
    c.in_ok-output.output c.in-Some.ensures.items c.in_ok-push-2.ensures.items

pub loop-inputs-preserved : goal.loop-inputs-preserved
loop-inputs-preserved g c =
    risen children_in (λ a. ⊤) (HasArrayRows g.C.ScalarFnVTable.meaning) c.args.self.now
    c.loop-inputs.node.now c.loop-inputs.above.items c.pop.new.self.items c.in-Some.parent
    c.push-else-len-children.new.self.items c.in_ok-output.output c.loop-inputs.invariant.0
    c.in-Some.ensures.items c.in_ok-output.ensures
    c.in_ok-push-2.ensures.items

-- a child's fault is the array's
pub returns-in_err-output : goal.returns-in_err-output
returns-in_err-output g c =
    let m = g.C.ScalarFnVTable.meaning in
    let p =
    err_from_is_err_and c.from_residual-in_err-output.result
    c.from_residual-in_err-output.ensures.1 in
    rw (p.1, p.2)
    (chain_refuses children_in (λ a. ⊤) (HasArrayRows m)
    (λ a. UnlessMemory (IsFirstFault m [] (rows_in a) (tree_in a))) (array_fault_upward m)
    c.args.self.now c.loop-inputs.node.now c.loop-inputs.above.items _
    c.loop-inputs.invariant.0 c.in_err-output.ensures)
