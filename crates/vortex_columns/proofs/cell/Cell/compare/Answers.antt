use Rattle.std.proofs.Common.{sym, ◌∙◌}
use Rattle.vortex_types.specs.Order.{compare_values}
use Rattle.vortex_columns.specs.Cells.{cell_value}
use Rattle.vortex_columns.proofs.Compare.{then_equal}
use Rattle.vortex_columns.proofs.cell.Cell.compare.Goals as goal

pub returns-in-Sequence-Sequence : goal.returns-in-Sequence-Sequence
returns-in-Sequence-Sequence c =
    c.order.ensures ∙ sym (then_equal _)
    ∙ (λ i.
    compare_values (cell_value (sym c.in-Sequence-Sequence.is-0 i))
    (cell_value (sym c.in-Sequence-Sequence.is-1 i)))
