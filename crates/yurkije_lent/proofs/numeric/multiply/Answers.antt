use Rattle.vortex_errors.specs.declared.error.NumericOperator.TheVariants.{Mul}
use Rattle.yurkije_lent.specs.Operands.{operand_column}
use Rattle.yurkije_lent.proofs.Calculated.{of_operator}
use Rattle.yurkije_lent.proofs.numeric.multiply.Goals as goal

pub returns : goal.returns
returns g c =
    of_operator Mul g.O.CheckedPrimitiveOp.exact (operand_column c.args.lhs.now)
    (operand_column c.args.rhs.now) c.calculate.result c.requires.exact c.calculate.ensures
