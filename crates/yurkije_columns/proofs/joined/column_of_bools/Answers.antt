use Rattle.std.proofs.Common.{◌∙◌}
use Rattle.vortex_columns.specs.ValidityView.{validity_of}
use Rattle.vortex_arrow.proofs.Rows.{bools_from}
use Rattle.yurkije_columns.proofs.joined.column_of_bools.Goals as goal

pub returns-in-Ok-try_bool : goal.returns-in-Ok-try_bool
returns-in-Ok-try_bool c =
    c.in-Ok-try_bool.ensures.1
    ∙ bools_from c.in-Ok.bits c.args.values.items (validity_of c.args.validity) 0 c.args.len
    c.in-Ok.ensures.1
