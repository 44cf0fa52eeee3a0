use Rattle.std.proofs.Common.{◌+◌, ◌*◌, ◌<◌, ◌∙◌, ℕ, arith, sym, ap, subst}
use Rattle.std.proofs.Common.{◌++◌}
use Rattle.std.specs.List.{range_with_len}
use Rattle.std.proofs.Math.Nat.{mul-suc}
use Rattle.vortex_columns.proofs.ElementPlaces.{at_place, element_places_more}
use Rattle.vortex_columns.proofs.column.taken.elements_at.Goals as goal

pub push_range-requires-clause-fits : goal.push_range-requires-clause-fits
push_range-requires-clause-fits g c =
    subst (λ (i : ℕ). c.args.size * i + c.args.size < 18446744073709551616) (sym c.index.ensures)
    (at_place (λ i. c.args.size * i + c.args.size < 18446744073709551616) g.P.Place.number
    c.args.places.now c.loop-place.place-index c.place-item.result c.requires
    c.loop-place-test.true c.place-item.is)

pub overflow_mul-size : goal.overflow_mul-size
overflow_mul-size g c =
    let here : c.args.size * c.index.result + c.args.size < 18446744073709551616 =
    subst (λ (i : ℕ). c.args.size * i + c.args.size < 18446744073709551616) (sym c.index.ensures)
    (at_place (λ i. c.args.size * i + c.args.size < 18446744073709551616) g.P.Place.number
    c.args.places.now c.loop-place.place-index c.place-item.result c.requires
    c.loop-place-test.true c.place-item.is) in
    search (arith, here)

pub loop-place-preserved : goal.loop-place-preserved
loop-place-preserved g c = (
  c.push_range.ensures.room ∙ c.loop-place.invariant.0,
  omega (
    arith,
    c.push_range.ensures.len,
    c.loop-place.invariant.1,
    mul-suc c.args.size c.loop-place.place-index,
  ),
  c.push_range.ensures.items
      ∙ ap (λ (i : ℕ). c.loop-place.elements.items ++ range_with_len (c.args.size * i) c.args.size)
      c.index.ensures
      ∙ element_places_more g.P.Place.number c.args.size c.args.places.now
      c.loop-place.place-index c.place-item.result c.loop-place.elements.items
      c.loop-place.invariant.2 c.loop-place-test.true c.place-item.is,
)
