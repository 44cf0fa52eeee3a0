use Rattle.std.proofs.Common.{ap, ◌∙◌}
use Rattle.vortex_columns.specs.ColumnView.{ColumnView}
use Rattle.vortex_columns.proofs.Parts.{match_weaker}
use Rattle.vortex_columns.proofs.StoredRows.{opened_valid_bits}
use Rattle.vortex_columns.proofs.column.Column.valid_bits.Goals as goal

pub returns : goal.returns
returns c =
    match_weaker _ _ _ _ c.valid_bits.result
    (λ not e. not (ap (λ (d : ColumnView). d.form) c.self.view_is ∙ e))
    (λ x h. opened_valid_bits c.self.inside _ c.self.view_is x.now h c.self.invariant)
    c.valid_bits.ensures
