use Rattle.std.proofs.Common.{subst, sym}
use Rattle.vortex_columns.specs.ValidityView.{ValidityView, FitsRows}
use Rattle.vortex_arrow.proofs.Nulls.{validity_fits}
use Rattle.vortex_arrow.proofs.reading.to_column.Goals as goal

pub read_values-requires-clause-fits : goal.read_values-requires-clause-fits
read_values-requires-clause-fits c =
    let column = c.args.column.now in
    subst (λ (v : ValidityView). FitsRows v column.length) (sym c.in_ok-validity.ensures.1)
    (validity_fits column.nullable column.validity column.offset column.length)
