use Rattle.std.proofs.Common.{◌∙◌, ap, sym, reverse}
use Rattle.rowfn_scripts.proofs.SessionSteps.{stack_of, last_is_top, top_shown}
use Rattle.rowfn_scripts.proofs.session.Session.printed_text.Goals as goal

pub returns : goal.returns
returns c =
    let top =
    sym (stack_of c.self.view_is) ∙ ap reverse (sym c.deref.ensures.value)
    ∙ last_is_top c.deref.result.now c.in-Some.shown.now c.in-Some.ensures.item.3.0
    c.in-Some.ensures.item.1 in
    top_shown c.args.self.now c.args.count c.in-Some.shown.now _ _ _ top c.in_ok-text.ensures
    c.in_ok-push_str.ensures.bytes
