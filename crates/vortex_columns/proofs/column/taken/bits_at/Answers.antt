use Rattle.std.proofs.Common.{◌≡◌, ℕ, false, map, length, slice_index_or, sym, subst}
use Rattle.std.specs.Prelude.{slice_index}
use Rattle.std.proofs.lemmas.List.{length-map}
use Rattle.vortex_bits.specs.Rows.{AreRows}
use Rattle.vortex_errors.proofs.Answering.{AnswersUnlessMemory-weaker}
use Rattle.vortex_columns.proofs.ElementPlaces.{bits_at_places}
use Rattle.vortex_columns.proofs.column.taken.bits_at.Goals as goal

pub returns : goal.returns
returns g c =
    let bits = c.args.bits.now in
    let places = map g.P.Place.number c.args.places.now in
    let bit = λ (i : ℕ). slice_index_or bits (slice_index places i) false in
    AnswersUnlessMemory-weaker c.collect_rows.result (AreRows (length c.args.places.now) bit)
    (λ b. b ≡ map (λ i. slice_index_or bits i false) places)
    (λ b h.
    bits_at_places bits b places
    (subst (λ (n : ℕ). AreRows n bit b) (sym (length-map c.args.places.now g.P.Place.number)) h))
    c.collect_rows.ensures
