use Rattle.std.proofs.Common.{◌∙◌, ◌++◌, ◌∷◌, [], List, ap}
use Rattle.vortex_expressions.specs.declared.item.Item as held
use Rattle.vortex_expressions.proofs.AlignedCases.{aligned_step}
use Rattle.vortex_expressions.proofs.functions.aligned_cases.Goals as goal

pub loop-rest-preserved : goal.loop-rest-preserved
loop-rest-preserved c =
    aligned_step c.args.kind.now c.args.common.now c.loop-rest.rest.now c.condition-item.result
    c.value-item.result c.in_ok-try_clone.field-0 c.in_ok-aligned_item.field-0
    c.loop-rest.cases.items _ _ c.in-len2-up.len_at_least c.condition-item.is c.value-item.is
    c.in_ok-try_clone.ensures c.in_ok-aligned_item.ensures
    (c.in_ok-push-2.ensures.items
    ∙ ap (λ (is : List held.Item). is ++ c.in_ok-aligned_item.field-0 ∷ [])
    c.in_ok-push.ensures.items)
    c.loop-rest.invariant
