use Rattle.std.proofs.Common.{◌∙◌, ap, sym, subst, map, ℕ, List}
use Rattle.std.specs.Borrow.{Bor}
use Rattle.rowfn_lines.specs.Commands.{Command, call, command_in}
use Rattle.rowfn_scripts.specs.Words.{Steps, MakesStep}
use Rattle.rowfn_scripts.proofs.session.Session.step.Goals as goal

pub returns-in-Call : goal.returns-in-Call
returns-in-Call c =
    let said : List (Bor (List ℕ)) → Command =
    λ ws. call (map (λ w. w.now) ws) c.in-Call.escape in
    subst
    (λ (k : Command). MakesStep (Steps k) c.args.self.now c.push_call.result
    c.push_call.new.self)
    (ap said c.deref.ensures.value ∙ sym (ap command_in c.in-Call.is))
    c.push_call.ensures
