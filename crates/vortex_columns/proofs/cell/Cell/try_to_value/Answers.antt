use Rattle.std.proofs.Common.{sym, ap, ◌∙◌}
use Rattle.vortex_types.proofs.ScalarViews.{view-List}
use Rattle.vortex_columns.specs.Cells.{cell_value}
use Rattle.vortex_columns.proofs.cell.Cell.try_to_value.Goals as goal

pub returns-in_ok-copy_values-in-Sequence : goal.returns-in_ok-copy_values-in-Sequence
returns-in_ok-copy_values-in-Sequence c =
    view-List _ ∙ c.in_ok-copy_values-in-Sequence.ensures ∙ sym (ap cell_value c.in-Sequence.is)
