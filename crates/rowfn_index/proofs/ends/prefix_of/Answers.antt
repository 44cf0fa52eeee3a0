use Rattle.std.proofs.Common.{◌-◌}
use Rattle.rowfn_index.proofs.TextEnds.{begins_range}
use Rattle.rowfn_index.proofs.ends.prefix_of.Goals as goal

pub returns-in-Some : goal.returns-in-Some
returns-in-Some c =
    begins_range c.args.text.now (24 - c.loop-cut.cut) c.in-Some.prefix.now
    c.in-Some.ensures.cases.0
