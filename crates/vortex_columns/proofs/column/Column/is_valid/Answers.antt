use Rattle.std.proofs.Common.{◌∙◌}
use Rattle.vortex_columns.proofs.StoredRows.{opened_has_row, opened_validity}
use Rattle.vortex_columns.proofs.column.Column.is_valid.Goals as goal

pub is_valid-requires : goal.is_valid-requires
is_valid-requires c =
    opened_has_row c.self.inside _ c.self.view_is c.args.i c.self.invariant c.requires

pub returns : goal.returns
returns c = c.is_valid.ensures ∙ opened_validity c.self.inside _ c.self.view_is c.args.i c.requires
