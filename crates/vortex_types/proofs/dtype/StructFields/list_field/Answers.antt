use Rattle.std.proofs.Common.{◌≡◌, ◌+◌, ◌∷◌, ◌∙◌, drop, get_or, ap, rules, arith}
use Rattle.std.proofs.lemmas.List.{drop_more}
use Rattle.vortex_types.specs.TypeCopies.{effects}
use Rattle.vortex_types.proofs.CopySteps.{listed_three, cost_one, more_at, weights_at}
use Rattle.vortex_types.proofs.dtype.StructFields.list_field.Goals as goal

pub returns-in_ok-push-3-clause-effect : goal.returns-in_ok-push-3-clause-effect
returns-in_ok-push-3-clause-effect c = λ st.
    let xs = c.args.self.now.fields.items in
    let f = c.index-field.result.now in
    let same : get_or xs c.args.k f ≡ f = search rules in
    let at : drop c.args.k xs ≡ f ∷ drop (c.args.k + 1) xs =
    drop_more xs c.args.k f (search rules) ∙ ap (λ g. g ∷ drop (c.args.k + 1) xs) same in
    listed_three _ _ _ _ _ _ _ st c.in_ok-push.ensures.items c.in_ok-push-2.ensures.items
    c.in_ok-push-3.ensures.items
    ∙ ap (effects c.args.steps.now.items) (more_at _ _ f st at)

pub returns-in_ok-push-3-clause-fewer : goal.returns-in_ok-push-3-clause-fewer
returns-in_ok-push-3-clause-fewer c =
    let xs = c.args.self.now.fields.items in
    let f = c.index-field.result.now in
    let same : get_or xs c.args.k f ≡ f = search rules in
    let at : drop c.args.k xs ≡ f ∷ drop (c.args.k + 1) xs =
    drop_more xs c.args.k f (search rules) ∙ ap (λ g. g ∷ drop (c.args.k + 1) xs) same in
    omega (
      arith,
      cost_one _ _ _ c.in_ok-push.ensures.items,
      cost_one _ _ _ c.in_ok-push-2.ensures.items,
      cost_one _ _ _ c.in_ok-push-3.ensures.items,
      weights_at _ _ f at,
    )
