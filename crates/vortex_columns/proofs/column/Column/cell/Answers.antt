use Rattle.std.proofs.Common.{sym, ◌∙◌}
use Rattle.vortex_columns.proofs.StoredRows.{opened_has_row, opened_valid_row, opened_null_row}
use Rattle.vortex_columns.proofs.column.Column.cell.Goals as goal

pub is_valid-requires : goal.is_valid-requires
is_valid-requires c =
    opened_has_row c.self.inside _ c.self.view_is c.args.i c.self.invariant c.requires

pub cell-requires : goal.cell-requires
cell-requires c = record {
  row = opened_has_row c.self.inside _ c.self.view_is c.args.i c.self.invariant c.requires;
  valid = sym c.is_valid.ensures ∙ c.if-is_valid.true;
}

pub returns-then-is_valid-clause-value : goal.returns-then-is_valid-clause-value
returns-then-is_valid-clause-value c =
    c.cell.ensures.value
    ∙ sym
    (opened_valid_row c.self.inside _ c.self.view_is c.args.i c.requires
    (sym c.is_valid.ensures ∙ c.if-is_valid.true))

pub returns-else-is_valid-clause-value : goal.returns-else-is_valid-clause-value
returns-else-is_valid-clause-value c =
    sym
    (opened_null_row c.self.inside _ c.self.view_is c.args.i c.requires
    (sym c.is_valid.ensures ∙ c.if-is_valid.false))
