use Rattle.std.proofs.Common.{◌≡◌, false, subst, sym, inl, inr, arith}
use Rattle.vortex_kernels.specs.Words.{HasNoNull}
use Rattle.yurkije_lent.specs.declared.operand.Operand.{Operand}
use Rattle.yurkije_lent.specs.Operands.{operand_column}
use Rattle.yurkije_lent.proofs.Dropped.{is_none_none}
use Rattle.yurkije_lent.proofs.LentRows.{lent_full}
use Rattle.yurkije_lent.proofs.validity.is_full.Goals as goal

pub returns-then-not-column : goal.returns-then-not-column
returns-then-not-column c = λ yes.
    let off : c.in-Lent.column.nullable ≡ false = grind arith in
    subst (λ (o : Operand). HasNoNull (operand_column o).rows) (sym c.in-Lent.is)
    (lent_full c.in-Lent.column (inl off))

pub returns-else-not-column : goal.returns-else-not-column
returns-else-not-column c = λ yes.
    subst (λ (o : Operand). HasNoNull (operand_column o).rows) (sym c.in-Lent.is)
    (lent_full c.in-Lent.column
    (inr (is_none_none c.in-Lent.column.validity c.is_none.result c.is_none.ensures yes)))
