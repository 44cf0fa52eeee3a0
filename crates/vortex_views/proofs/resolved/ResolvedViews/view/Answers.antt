use Rattle.std.proofs.Common.{◌<◌, subst, sym, ap, ◌∙◌, ℕ, List, [], length, map, arith}
use Rattle.std.proofs.lemmas.List.{get_or-map, length-map}
use Rattle.vortex_views.specs.ViewBytes.{view_bytes}
use Rattle.vortex_views.specs.Resolved.{IsViewOf, value_in}
use Rattle.vortex_views.proofs.Resolving.{view_at, value_at, view_of}
use Rattle.vortex_views.proofs.resolved.ResolvedViews.view.Goals as goal

pub returns : goal.returns
returns c =
    let bufs : List (List ℕ) = map (λ b. b.items) c.args.self.now.buffers.now in
    let views = c.args.self.now.views.now in
    let v = c.view_at.result.now in
    let at = view_at bufs views c.args.i v c.args.self.now.fit c.requires c.view_at.ensures in
    let within : c.args.i < length views =
    omega (arith, length-map views (λ w. value_in bufs (view_bytes w))) in
    record {
      borrowed = ap view_bytes c.view_at.ensures
          ∙ sym (get_or-map view_bytes views c.args.i v [] within);
      fits = at;
      value = subst (λ x. IsViewOf x (view_bytes v))
          (value_at bufs views c.args.i v c.requires c.view_at.ensures)
          (view_of bufs (view_bytes v) at);
    }
