use Rattle.std.proofs.Common.{refl}
use Rattle.rowfn_scripts.proofs.SessionSteps.{tree_pushed}
use Rattle.rowfn_scripts.proofs.session.Session.push.Goals as goal

pub returns-clause-pushed : goal.returns-clause-pushed
returns-clause-pushed c =
    tree_pushed _ c.args.self.now c.args.tree c.self.inside.stack.items c.push.new.self.items
    c.self.view_is refl c.in_ok-push.ensures.items
