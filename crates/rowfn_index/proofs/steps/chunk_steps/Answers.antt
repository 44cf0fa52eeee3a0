use Rattle.std.proofs.Common.{◌≡◌, ◌++◌, ◌∷◌, [], ℕ, List, map, sym, ap, ◌∙◌, zero-add}
use Rattle.std.specs.List.{range_with_len}
use Rattle.std.proofs.lemmas.List.FromFn.{map-range_with_len_more}
use Rattle.rowfn_index.specs.declared.steps.Action.{Action}
use Rattle.rowfn_index.specs.Steps.{action_at}
use Rattle.rowfn_index.proofs.steps.chunk_steps.Goals as goal

pub loop-number-preserved : goal.loop-number-preserved
loop-number-preserved c =
    let f : ℕ → Action = action_at c.args.copies c.args.pruned.now c.args.chunks.now in
    let n : ℕ = c.loop-number.number in
    c.in_ok-push_action.ensures
    ∙ (ap (λ (xs : List Action). xs ++ (c.action_at.result ∷ [])) c.loop-number.invariant
    ∙ (ap (λ (a : Action). map f (range_with_len 0 n) ++ (a ∷ [])) c.action_at.ensures
    ∙ sym (map-range_with_len_more f 0 n n (zero-add n))))
