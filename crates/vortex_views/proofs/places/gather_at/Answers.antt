use Rattle.std.proofs.Common.{◌<◌, ℕ, length, slice_index_or, sym, ap, ◌∙◌, subst, arith, map}
use Rattle.std.proofs.lemmas.List.{take_all}
use Rattle.vortex_views.proofs.Gathering.{place_within, gathered_more}
use Rattle.vortex_views.proofs.places.gather_at.Goals as goal

pub bounds-items-index : goal.bounds-items-index
bounds-items-index g c =
    subst (λ (k : ℕ). k < length c.args.items.now) (sym c.index.ensures)
    (place_within g.P.Place.number c.args.places.now (length c.args.items.now)
    c.loop-place.place-index c.place-item.result c.requires c.loop-place-test.true c.place-item.is)

pub offset_bounds-items-index : goal.offset_bounds-items-index
offset_bounds-items-index g c = omega (arith, bounds-items-index g c)

pub push_reserved-requires : goal.push_reserved-requires
push_reserved-requires g c =
    omega (arith, c.loop-place.invariant.0, c.loop-place.invariant.1, c.loop-place-test.true)

pub loop-place-preserved : goal.loop-place-preserved
loop-place-preserved g c = (
  c.push_reserved.ensures.capacity ∙ c.loop-place.invariant.0,
  omega (arith, c.push_reserved.ensures.len, c.loop-place.invariant.1),
  λ d. c.push_reserved.ensures.items
      ∙ gathered_more g.P.Place.number c.args.items.now c.args.places.now c.loop-place.taken.items
      c.loop-place.place-index c.place-item.result c.index-items-index.result d
      (c.loop-place.invariant.2 d) c.loop-place-test.true c.place-item.is
      (place_within g.P.Place.number c.args.places.now (length c.args.items.now)
      c.loop-place.place-index c.place-item.result c.requires c.loop-place-test.true
      c.place-item.is)
      (c.index-items-index.is
      ∙ ap (λ k. slice_index_or c.args.items.now k c.index-items-index.result) c.index.ensures),
)

pub returns : goal.returns
returns g c d =
    c.loop-place.invariant.2 d
    ∙ ap (λ ps. map (λ k. slice_index_or c.args.items.now k d) (map g.P.Place.number ps))
    (take_all c.loop-place.place-index c.args.places.now c.loop-place-test.false)
