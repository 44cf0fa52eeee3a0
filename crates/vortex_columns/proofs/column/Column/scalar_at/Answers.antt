use Rattle.std.proofs.Common.{◌∙◌}
use Rattle.vortex_columns.proofs.StoredRows.{opened_scalar}
use Rattle.vortex_columns.proofs.column.Column.scalar_at.Goals as goal

pub returns : goal.returns
returns c =
    opened_scalar c.self.inside _ c.self.view_is c.args.i c.in_ok-dtype.dtype c.in_ok-value.value
    c.try_new.result c.self.invariant c.requires c.in_ok-dtype.ensures
    (c.in_ok-value.ensures ∙ c.cell.ensures.value) c.try_new.ensures
