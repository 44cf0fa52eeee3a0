use Rattle.std.proofs.Common.{rules, arith, ◌≡◌, ◌∙◌, Some, None, ap, sym}
use Rattle.std.specs.Option.{option_map}
use Rattle.std.proofs.lemmas.Result.{err_from_is_err_and}
use Rattle.vortex_rewriting.proofs.RewrittenList.{all_taken, next_refused, next_passes, next_counts}
use Rattle.vortex_rewriting.proofs.places.made_by.Goals as goal
use Rattle.vortex_rewriting.proofs.places.made_by.Goals.{in-Some, in_default}

pub loop-step-preserved : goal.loop-step-preserved
loop-step-preserved g c =
    let tree = g.L.Leaf.tree_of in
    let apply = g.L.RewriteLeaf.applied in
    let steps = c.args.steps.now in
    let k = c.loop-step.step-index in
    let t = tree c.args.tree.now in
    let x = tree c.loop-step.last in
    let n = c.loop-step.applied in
    elim c.match-branch-3.branch [
      | in-Some w ↦ (
        next_counts apply steps k t x n c.loop-step.invariant.0 _ c.loop-step-test.true
            (tree w.in-Some.new)
            (c.in_ok-new.ensures.answer ∙ ap (λ o. Some (option_map tree o)) w.in-Some.is)
            ∙ (λ j. Some (tree (sym w.last-is j), sym w.applied-is j)),
        (let few = c.loop-step.invariant.1 in omega (arith, few, w.applied-is)),
        search rules,
      )
      | in_default w ↦ (
        next_passes apply steps k t x n c.loop-step.invariant.0 _ c.loop-step-test.true
            (let none : c.in_ok-new.field-0 ≡ None = grind (arith, w.in_default) in
            c.in_ok-new.ensures.answer ∙ ap (λ o. Some (option_map tree o)) none)
            ∙ (λ j. Some (tree (sym w.last-is j), sym w.applied-is j)),
        (let few = c.loop-step.invariant.1 in omega (arith, few, w.applied-is)),
        search rules,
      )
    ]

pub returns-in_err-new-clause-answer : goal.returns-in_err-new-clause-answer
returns-in_err-new-clause-answer g c =
    let tree = g.L.Leaf.tree_of in
    let apply = g.L.RewriteLeaf.applied in
    let steps = c.args.steps.now in
    let t = tree c.args.tree.now in
    let x = tree c.loop-step.last in
    let p =
    err_from_is_err_and c.from_residual-in_err-new.result c.from_residual-in_err-new.ensures.1 in
    rw (p.1, p.2)
    (next_refused apply steps c.loop-step.step-index t x c.loop-step.applied
    c.loop-step.invariant.0 _ c.loop-step-test.true c.in_err-new.field-0.0
    c.in_err-new.ensures.answer)

pub returns-clause-answer : goal.returns-clause-answer
returns-clause-answer g c =
    let tree = g.L.Leaf.tree_of in
    all_taken g.L.RewriteLeaf.applied c.args.steps.now c.loop-step.step-index
    (tree c.args.tree.now) (tree c.loop-step.last) c.loop-step.applied c.loop-step.invariant.0
    c.loop-step-test.false
