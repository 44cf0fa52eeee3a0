use Rattle.std.proofs.Common.{◌<◌, ◌∙◌, ℕ, List, length, sym, ap, subst}
use Rattle.std.specs.Prelude.{All}
use Rattle.std.proofs.lemmas.List.{map-id}
use Rattle.vortex_views.specs.Places.{places_of}
use Rattle.vortex_columns.proofs.column.taken.take_bits.Goals as goal

pub bits_at-requires : goal.bits_at-requires
bits_at-requires c =
    subst (λ (ps : List ℕ). All (λ i. i < length c.args.bits.now) ps)
    (ap places_of c.in-Codes.is ∙ sym (map-id c.in-Codes.codes.now)) c.requires

pub bits_at-requires-in-Indices : goal.bits_at-requires-in-Indices
bits_at-requires-in-Indices c =
    subst (λ (ps : List ℕ). All (λ i. i < length c.args.bits.now) ps)
    (ap places_of c.in-Indices.is ∙ sym (map-id c.in-Indices.indices.now)) c.requires
