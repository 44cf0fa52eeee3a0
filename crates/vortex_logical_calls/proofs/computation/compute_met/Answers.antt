use Rattle.std.proofs.Common.{sym, subst}
use Rattle.vortex_errors.specs.declared.error.NumericOperator.{NumericOperator}
use Rattle.vortex_lowering.specs.Rows.{lowered}
use Rattle.vortex_logical_calls.specs.Outcomes.{Makes}
use Rattle.vortex_logical_calls.specs.Computation.{compute_met}
use Rattle.vortex_logical_calls.proofs.computation.compute_met.Goals as goal

pub returns-in-Add : goal.returns-in-Add
returns-in-Add c =
    let x = lowered c.args.left.tree c.args.left.operand in
    let y = lowered c.args.right.tree c.args.right.operand in
    subst (λ (o : NumericOperator). Makes (λ z. lowered z.tree z.operand) c.add_met.result
    (compute_met o x y)) (sym c.in-Add.is) c.add_met.ensures

pub returns-in-Sub : goal.returns-in-Sub
returns-in-Sub c =
    let x = lowered c.args.left.tree c.args.left.operand in
    let y = lowered c.args.right.tree c.args.right.operand in
    subst (λ (o : NumericOperator). Makes (λ z. lowered z.tree z.operand) c.subtract_met.result
    (compute_met o x y)) (sym c.in-Sub.is) c.subtract_met.ensures

pub returns-in-Mul : goal.returns-in-Mul
returns-in-Mul c =
    let x = lowered c.args.left.tree c.args.left.operand in
    let y = lowered c.args.right.tree c.args.right.operand in
    subst (λ (o : NumericOperator). Makes (λ z. lowered z.tree z.operand) c.multiply_met.result
    (compute_met o x y)) (sym c.in-Mul.is) c.multiply_met.ensures
