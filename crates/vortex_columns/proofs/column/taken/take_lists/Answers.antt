use Rattle.std.proofs.Common.{ℕ, List, map, ap, ◌∙◌}
use Rattle.std.specs.Prelude.{slice_index}
use Rattle.vortex_views.specs.Places.{places_of}
use Rattle.vortex_columns.specs.Stored.{lists}
use Rattle.vortex_columns.proofs.column.taken.take_lists.Goals as goal

pub returns : goal.returns
returns c =
    let at = places_of c.args.places.now in
    c.in_ok-of_lists.ensures
    ∙ (λ i. lists (c.in_ok-try_clone.ensures i)
    ((c.in_ok-taken_offsets.ensures 0
    ∙ ap (λ (xs : List ℕ). map (slice_index xs) at) c.deref.ensures.value) i)
    ((c.in_ok-taken_sizes.ensures 0
    ∙ ap (λ (xs : List ℕ). map (slice_index xs) at) c.deref-2.ensures.value) i))
