use Rattle.std.proofs.Common.{◌∙◌}
use Rattle.vortex_columns.specs.ValidityView.{validity_of}
use Rattle.vortex_arrow.proofs.Rows.{bools_from}
use Rattle.vortex_arrow.proofs.reading.read_bools.Goals as goal

pub returns-in-Ok : goal.returns-in-Ok
returns-in-Ok c =
    c.in-Ok.ensures.1
    ∙ bools_from c.in_ok-values.values c.args.values.now (validity_of c.args.validity) c.args.from
    c.args.count c.in_ok-values.ensures
