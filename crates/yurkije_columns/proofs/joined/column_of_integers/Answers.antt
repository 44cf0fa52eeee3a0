use Rattle.std.proofs.Common.{◌∙◌, arith}
use Rattle.vortex_columns.specs.ValidityView.{validity_of}
use Rattle.vortex_arrow.proofs.Rows.{integers_from}
use Rattle.yurkije_columns.proofs.joined.column_of_integers.Goals as goal

pub returns-in-Ok : goal.returns-in-Ok
returns-in-Ok g c =
    c.in-Ok.ensures.1
    ∙ integers_from g.T.NativePType.ptype g.T.NativePType.number c.truncate.new.self.items
    c.args.values.items (validity_of c.args.validity) 0 c.args.len
    (omega (arith, c.requires.items))
    c.truncate.ensures.items
