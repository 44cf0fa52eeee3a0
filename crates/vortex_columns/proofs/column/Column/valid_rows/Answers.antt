use Rattle.std.proofs.Common.{◌∙◌, length, sym, ap}
use Rattle.vortex_columns.specs.ColumnView.{ColumnView}
use Rattle.vortex_columns.proofs.StoredRows.{opened_fits, opened_validity}
use Rattle.vortex_columns.proofs.column.Column.valid_rows.Goals as goal

pub returns-clause-rows : goal.returns-clause-rows
returns-clause-rows c =
    let told = c.valid_rows.ensures.rows in
    let column = c.args.self.now in
    record {
      fits = told.fits (length column.rows)
          (opened_fits c.self.inside _ c.self.view_is c.self.invariant);
      each = λ i lt. told.each i ∙ opened_validity c.self.inside _ c.self.view_is i lt;
    }

pub returns-clause-listed : goal.returns-clause-listed
returns-clause-listed c =
    λ is_listed.
    sym (ap (λ (d : ColumnView). d.form) c.self.view_is) ∙ c.valid_rows.ensures.listed is_listed
