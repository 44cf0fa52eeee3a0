use Rattle.std.proofs.Common.{refl, ◌∙◌}
use Rattle.rowfn_scripts.specs.Sessions.{with_literal}
use Rattle.rowfn_scripts.proofs.SessionSteps.{unsaid, before_rows, same_pushed}
use Rattle.rowfn_scripts.proofs.SessionSteps.{literal_pushed}
use Rattle.rowfn_scripts.proofs.session.Session.push_literal.Goals as goal

pub returns-then-is_none : goal.returns-then-is_none
returns-then-is_none c =
    let s = c.args.self.now in
    let none = unsaid c.self.view_is c.is_none.ensures c.if-is_none.true in
    (before_rows s.row_count (λ n. with_literal c.args.scalar s) none, refl)

pub returns : goal.returns
returns c =
    let s = c.args.self.now in
    let known = unsaid c.self.view_is c.is_none.ensures c.if-is_none.false in
    same_pushed _ s s c.lit.result _ s.stack s.stack refl c.lit.ensures refl
    c.in_ok-push.ensures.pushed
    ∙ literal_pushed c.args.scalar s known
