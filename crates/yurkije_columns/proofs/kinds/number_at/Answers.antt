use Rattle.std.proofs.Common.{sym, ◌∙◌}
use Rattle.yurkije_columns.proofs.KindPlaces.{there, missing}
use Rattle.yurkije_columns.proofs.kinds.number_at.Goals as goal

pub returns-in-Some : goal.returns-in-Some
returns-in-Some c =
    c.kind_number.ensures
    ∙ sym (there c.args.kinds.now c.args.place c.in-Some.kind.now c.in-Some.ensures)

pub returns-in-None : goal.returns-in-None
returns-in-None c = sym (missing c.args.kinds.now c.args.place c.in-None.ensures)
