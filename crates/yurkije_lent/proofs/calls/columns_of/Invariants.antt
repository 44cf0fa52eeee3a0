use Rattle.std.proofs.Common.{◌≡◌, map}
use Rattle.std.specs.Cow.{cow_value}
use Rattle.yurkije_lent.specs.Operands.{operand_column}
use Rattle.yurkije_lent.proofs.calls.columns_of.Given as goal

-- the columns of the operands so far
abbrev pub invariant-loop-input : goal.invariant-loop-input
invariant-loop-input l =
    (goal.iterator-loop-input).can_next l.input-iterator
    × (goal.iterator-loop-input).is_finite l.input-iterator
    × (map cow_value l.columns.items ≡ map operand_column l.yielded)
