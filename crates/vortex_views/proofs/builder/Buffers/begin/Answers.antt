use Rattle.std.proofs.Common.{ap, ◌∙◌, ◌≡◌, ℕ, List, [], ◌∷◌, ◌++◌, map, length, Vec, Global, arith}
use Rattle.std.proofs.Common.{rules}
use Rattle.std.specs.Vec.{vec_len}
use Rattle.vortex_views.proofs.Placed.{last_set, last_read}
use Rattle.vortex_views.proofs.builder.Buffers.begin.Goals as goal

pub returns-clause-answer : goal.returns-clause-answer
returns-clause-answer c =
    let full = c.args.self.now.full.items in
    let n = c.len-number.result in
    let counted : vec_len c.args.self.now.full
    ≡ length full = omega (arith, c.args.self.now.full.ok.0) in
    let n_is : n ≡ length full = c.len-number.ensures ∙ counted in
    let pushed = c.in_ok-push.ensures.items in
    record {
      full = last_set full c.push.new.self.items _ c.swap.new.y n n_is pushed
          ∙ ap (λ (v : Vec ℕ Global). map (λ w. w.items) full ++ v.items ∷ [])
          c.swap.ensures.y_after;
      last = ap (λ (v : Vec ℕ Global). v.items) (c.swap.ensures.x_after ∙ c.index_mut.ensures.value)
          ∙ last_read full c.push.new.self.items _ _ n n_is pushed
          ∙ c.in_ok-extend_from_slice.ensures.items
          ∙ ap (λ (v : List ℕ). v ++ c.args.value.now) c.new-next.ensures.items;
      view_is = search rules;
    }
