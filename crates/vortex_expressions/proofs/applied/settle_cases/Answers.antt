use Rattle.std.proofs.Common.{◌∙◌, ◌++◌, ◌∷◌, [], List, ap, option_map}
use Rattle.vortex_types.specs.TypeOf.{type_of}
use Rattle.vortex_expressions.specs.Items.{Tree}
use Rattle.vortex_expressions.proofs.Settling.{cases_step}
use Rattle.vortex_expressions.proofs.applied.settle_cases.Goals as goal

pub loop-rest-preserved : goal.loop-rest-preserved
loop-rest-preserved c =
    cases_step (option_map (λ t. type_of t.now) c.args.beside) c.loop-rest.rest.now
    c.condition-item.result c.value-item.result c.loop-rest.trees.items _
    c.in_ok-settle_truth.field-0 c.in_ok-settle.field-0 _ c.in-len2-up.len_at_least
    c.condition-item.is c.value-item.is c.in_ok-settle_truth.ensures c.in_ok-settle.ensures
    (c.in_ok-push-2.ensures.items
    ∙ ap (λ (ts : List Tree). ts ++ c.in_ok-settle.field-0 ∷ []) c.in_ok-push.ensures.items)
    c.loop-rest.invariant
