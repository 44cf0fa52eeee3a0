use Rattle.yurkije_lent.specs.Operands.{operand_column}
use Rattle.yurkije_lent.proofs.Calculated.{both_typed}
use Rattle.yurkije_lent.proofs.numeric.calculate_operands.Goals as goal

pub calculate_typed-requires-clause-types : goal.calculate_typed-requires-clause-types
calculate_typed-requires-clause-types c =
    both_typed c.in_ok-ptype.ptype (operand_column c.args.left.now).dtype
    (operand_column c.args.right.now).dtype c.in_ok-ptype.ensures c.requires.types
