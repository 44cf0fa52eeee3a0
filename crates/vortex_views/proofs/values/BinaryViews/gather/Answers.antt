use Rattle.std.proofs.Common.{◌<◌, ◌∙◌, ℕ, List, [], length, map, slice_index_or, sym, ap, subst}
use Rattle.std.specs.Prelude.{All}
use Rattle.vortex_views.specs.Places.{places_of}
use Rattle.vortex_views.proofs.Gathering.{gathered_fit, gathered_values}
use Rattle.vortex_views.proofs.values.BinaryViews.gather.Goals as goal

pub invariant_of-result : goal.invariant_of-result
invariant_of-result c =
    gathered_fit _ _ c.self.inside.views.items _ (places_of c.args.places.now)
    c.in_ok-buffers.ensures
    (subst (λ (vs : List (List ℕ)). All (λ i. i < length vs) (places_of c.args.places.now))
    (sym c.self.view_is) c.requires)
    (λ d. c.in_ok-views.ensures d
    ∙ ap (λ vs. map (λ i. slice_index_or vs i d) (places_of c.args.places.now))
    c.as_slice.ensures.value)
    c.self.invariant

pub returns : goal.returns
returns c =
    gathered_values _ _ c.self.inside.views.items _ (places_of c.args.places.now)
    c.in_ok-buffers.ensures
    (subst (λ (vs : List (List ℕ)). All (λ i. i < length vs) (places_of c.args.places.now))
    (sym c.self.view_is) c.requires)
    (λ d. c.in_ok-views.ensures d
    ∙ ap (λ vs. map (λ i. slice_index_or vs i d) (places_of c.args.places.now))
    c.as_slice.ensures.value)
    ∙ ap (λ (vs : List (List ℕ)). map (λ i. slice_index_or vs i []) (places_of c.args.places.now))
    c.self.view_is
