use Rattle.std.proofs.Common.{◌+◌, ◌*◌, ◌<◌, ◌∙◌, ℕ, List, sym, ap, subst}
use Rattle.std.specs.Prelude.{All}
use Rattle.std.proofs.lemmas.List.{map-id}
use Rattle.vortex_views.specs.Places.{places_of}
use Rattle.vortex_columns.proofs.column.taken.element_places.Goals as goal

pub elements_at-requires : goal.elements_at-requires
elements_at-requires c =
    subst
    (λ (ps : List ℕ). All (λ i. c.args.size * i + c.args.size < 18446744073709551616) ps)
    (ap places_of c.in-Codes.is ∙ sym (map-id c.in-Codes.codes.now)) c.requires

pub elements_at-requires-in-Indices : goal.elements_at-requires-in-Indices
elements_at-requires-in-Indices c =
    subst
    (λ (ps : List ℕ). All (λ i. c.args.size * i + c.args.size < 18446744073709551616) ps)
    (ap places_of c.in-Indices.is ∙ sym (map-id c.in-Indices.indices.now)) c.requires
