use Rattle.std.proofs.Common.{subst, sym}
use Rattle.vortex_columns.specs.ValidityView.{ValidityView, FitsRows}
use Rattle.yurkije_columns.proofs.JoinedRows.{fits}
use Rattle.yurkije_columns.proofs.joined.Joined.into_column.Goals as goal

pub into_column-requires-clause-fits : goal.into_column-requires-clause-fits
into_column-requires-clause-fits c =
    let a = c.self.inside in
    subst (λ (v : ValidityView). FitsRows v a.len) (sym c.in_ok-validity.ensures)
    (fits a.nullable a.validity.items a.len)
