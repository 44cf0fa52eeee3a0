use Rattle.std.proofs.Common.{◌≡◌, Some, sym, ap, ◌∙◌}
use Rattle.vortex_errors.proofs.Answering.{Answers-weaker}
use Rattle.vortex_functions.specs.Words.{function_of}
use Rattle.vortex_functions.specs.Binding.{IsCall, RefusesCall}
use Rattle.vortex_rewriting.specs.Places.{with_children}
use Rattle.vortex_rewriting.proofs.OtherChildren.{with_children_call, others_refused}
use Rattle.vortex_pruning.proofs.residuals.over_children.Goals as goal

pub returns-in_ok-try_clone-in-Some : goal.returns-in_ok-try_clone-in-Some
returns-in_ok-try_clone-in-Some g c =
    let m = g.C.ScalarFnVTable.meaning in
    let t = c.args.node.now in
    let us = c.args.children.items in
    let f = function_of c.in_ok-try_clone-in-Some.field-0 in
    let called =
    c.in-Some.ensures ∙ ap (λ f. Some (function_of f)) (sym c.in_ok-try_clone-in-Some.ensures) in
    Answers-weaker c.try_new.result (IsCall m f us) (λ made. made ≡ with_children t us)
    (RefusesCall m f us) (λ e. ⊥) (λ made p. p.is ∙ with_children_call t f us called)
    (others_refused m t f called us c.requires) c.try_new.ensures
