use Rattle.std.proofs.Common.{ap, sym, subst, ◌∙◌}
use Rattle.vortex_expressions.specs.Binding.{logical_in, ended}
use Rattle.vortex_expressions.specs.Answering.{Gives}
use Rattle.vortex_expressions.specs.Outcomes.{and_then}
use Rattle.vortex_expressions.specs.Stacks.{stack_in}
use Rattle.vortex_expressions.proofs.Walking.{left_then}
use Rattle.vortex_expressions.proofs.binder.Stack.finish_logical.Goals as goal

pub returns : goal.returns
returns c =
    subst (λ o. Gives logical_in c.end.result o)
    (sym (left_then ended (stack_in c.args.self.items.items)
    ∙ ap (λ o. and_then o ended) c.in_ok-item.ensures)) c.end.ensures
