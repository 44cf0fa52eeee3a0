use Rattle.std.proofs.Common.{◌≡◌, ◌∷◌, ◌∙◌, [], sym, ap, rules}
use Rattle.vortex_types.specs.TypeOf.{type_of}
use Rattle.vortex_types.specs.TypeCopies.{effects, tops}
use Rattle.vortex_types.proofs.CopySteps.{listed_one, tops_push, one_there, first_is}
use Rattle.vortex_types.proofs.dtype.DType.copy_by_steps.Goals as goal

pub loop-step-init : goal.loop-step-init
loop-step-init c =
    let t = type_of c.args.self.now in
    let made = tops c.new-made.result.items in
    listed_one _ _ _ made c.in_ok-push.ensures.items
    ∙ ap (λ ss. effects ss (t ∷ made)) c.new-steps.ensures.items
    ∙ ap (λ ts. t ∷ tops ts) c.new-made.ensures.items

pub loop-step-preserved : goal.loop-step-preserved
loop-step-preserved c =
    c.in_ok-step.ensures.effect
    ∙ sym
    (listed_one c.pop.new.self.items c.loop-step.steps.items c.in-Some.step
    (tops c.loop-step.made.items) c.in-Some.ensures.items)
    ∙ c.loop-step.invariant

pub unreachable-requires : goal.unreachable-requires
unreachable-requires c =
    let none : c.loop-step.steps.items ≡ [] = search rules in
    let empty : c.loop-step.made.items ≡ [] = search rules in
    one_there (type_of c.args.self.now)
    (sym (ap tops empty) ∙ sym (ap (λ ss. effects ss (tops c.loop-step.made.items)) none)
    ∙ c.loop-step.invariant)

pub returns : goal.returns
returns c =
    let none : c.loop-step.steps.items ≡ [] = search rules in
    let rest = c.pop-2.new.self.items in
    first_is _ _ (tops rest) []
    (sym (tops_push rest c.in-Some-pop.copy) ∙ sym (ap tops c.in-Some-pop.ensures.items)
    ∙ sym (ap (λ ss. effects ss (tops c.loop-step.made.items)) none)
    ∙ c.loop-step.invariant)
