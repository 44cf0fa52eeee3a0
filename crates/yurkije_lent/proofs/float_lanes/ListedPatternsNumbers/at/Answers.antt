use Rattle.std.proofs.Common.{◌∙◌, sym, pos}
use Rattle.std.proofs.lemmas.List.{get_or-map}
use Rattle.yurkije_lent.proofs.float_lanes.ListedPatternsNumbers.at.Goals as goal

pub returns : goal.returns
returns g c =
    c.key_of.ensures
    ∙ sym (get_or-map g.T.FloatLane.key c.args.self.now.patterns.now c.args.i c.index-self-i.result
    (pos 0) c.requires)
