use Rattle.std.proofs.Common.{◌∙◌, arith, sym, refl}
use Rattle.std.proofs.lemmas.List.{append-nil}
use Rattle.vortex_columns.proofs.ElementPlaces.{range_pushed}
use Rattle.vortex_columns.proofs.column.taken.push_range.Goals as goal

pub push_reserved-requires : goal.push_reserved-requires
push_reserved-requires c =
    omega (arith, c.requires.room, c.loop-i.invariant.1, c.loop-i.invariant.2, c.loop-i-test.true)

pub loop-i-init : goal.loop-i-init
loop-i-init c = (sym (append-nil c.args.places.now.items), omega arith, refl)

pub loop-i-preserved : goal.loop-i-preserved
loop-i-preserved c = (
  c.push_reserved.ensures.items
      ∙ range_pushed c.args.places.now.items c.loop-i.places.items c.args.from c.loop-i.i
      c.loop-i.invariant.0,
  omega (arith, c.push_reserved.ensures.len, c.loop-i.invariant.1),
  c.push_reserved.ensures.capacity ∙ c.loop-i.invariant.2,
)
