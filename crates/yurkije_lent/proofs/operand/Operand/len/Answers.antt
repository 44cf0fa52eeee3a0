use Rattle.std.proofs.Common.{length, sym, ap, ◌∙◌}
use Rattle.yurkije_lent.specs.declared.operand.Operand.{Operand}
use Rattle.yurkije_lent.specs.Operands.{operand_column}
use Rattle.yurkije_lent.proofs.LentRows.{lent_count}
use Rattle.yurkije_lent.proofs.operand.Operand.len.Goals as goal

pub returns-in-Lent : goal.returns-in-Lent
returns-in-Lent c =
    sym (ap (λ (o : Operand). length (operand_column o).rows) c.in-Lent.is
    ∙ lent_count c.in-Lent.column)
