use Rattle.std.proofs.Common.{◌≡◌, ◌<◌, ℕ, List, IfOk, length, map, slice_index_or, sym, ap, ◌∙◌}
use Rattle.std.proofs.Common.{subst}
use Rattle.std.specs.Prelude.{All}
use Rattle.std.proofs.lemmas.List.{map-id}
use Rattle.vortex_views.specs.Places.{places_of}
use Rattle.vortex_views.proofs.places.gather.Goals as goal

pub gather_at-requires : goal.gather_at-requires
gather_at-requires g c =
    subst (λ (ps : List ℕ). All (λ i. i < length c.args.items.now) ps)
    (ap places_of c.in-Codes.is ∙ sym (map-id c.in-Codes.codes.now)) c.requires

pub gather_at-requires-in-Indices : goal.gather_at-requires-in-Indices
gather_at-requires-in-Indices g c =
    subst (λ (ps : List ℕ). All (λ i. i < length c.args.items.now) ps)
    (ap places_of c.in-Indices.is ∙ sym (map-id c.in-Indices.indices.now)) c.requires

pub returns-in-Codes : goal.returns-in-Codes
returns-in-Codes g c =
    subst (λ (ps : List ℕ). IfOk c.gather_at.result
    (λ taken. (d : _) → taken.items ≡ map (λ i. slice_index_or c.args.items.now i d) ps))
    (map-id c.in-Codes.codes.now ∙ sym (ap places_of c.in-Codes.is)) c.gather_at.ensures

pub returns-in-Indices : goal.returns-in-Indices
returns-in-Indices g c =
    subst (λ (ps : List ℕ). IfOk c.gather_at-in-Indices.result
    (λ taken. (d : _) → taken.items ≡ map (λ i. slice_index_or c.args.items.now i d) ps))
    (map-id c.in-Indices.indices.now ∙ sym (ap places_of c.in-Indices.is))
    c.gather_at-in-Indices.ensures
