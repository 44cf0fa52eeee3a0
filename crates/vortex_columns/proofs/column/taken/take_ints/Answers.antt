use Rattle.std.proofs.Common.{◌∙◌, map, pos, sym, ap}
use Rattle.vortex_types.specs.Numbers.{numbers, ptype_of}
use Rattle.vortex_views.specs.Places.{places_of}
use Rattle.vortex_columns.proofs.ElementPlaces.{ints_gathered}
use Rattle.vortex_columns.proofs.column.taken.take_ints.Goals as goal

pub returns-in_ok-gather-in-I8 : goal.returns-in_ok-gather-in-I8
returns-in_ok-gather-in-I8 c = (
  ap ptype_of (sym c.in-I8.is),
  ints_gathered (λ x. x) c.deref.result.now _ (pos 0) _ (places_of c.args.places.now)
      (ap (map (λ x. x)) c.deref.ensures.value ∙ ap numbers (sym c.in-I8.is)) c.requires
      (c.in_ok-gather-in-I8.ensures (pos 0)),
)

pub returns-in_ok-gather-in-I16 : goal.returns-in_ok-gather-in-I16
returns-in_ok-gather-in-I16 c = (
  ap ptype_of (sym c.in-I16.is),
  ints_gathered (λ x. x) c.deref-in-I16.result.now _ (pos 0) _ (places_of c.args.places.now)
      (ap (map (λ x. x)) c.deref-in-I16.ensures.value ∙ ap numbers (sym c.in-I16.is)) c.requires
      (c.in_ok-gather-in-I16.ensures (pos 0)),
)

pub returns-in_ok-gather-in-I32 : goal.returns-in_ok-gather-in-I32
returns-in_ok-gather-in-I32 c = (
  ap ptype_of (sym c.in-I32.is),
  ints_gathered (λ x. x) c.deref-in-I32.result.now _ (pos 0) _ (places_of c.args.places.now)
      (ap (map (λ x. x)) c.deref-in-I32.ensures.value ∙ ap numbers (sym c.in-I32.is)) c.requires
      (c.in_ok-gather-in-I32.ensures (pos 0)),
)

pub returns-in_ok-gather-in-I64 : goal.returns-in_ok-gather-in-I64
returns-in_ok-gather-in-I64 c = (
  ap ptype_of (sym c.in-I64.is),
  ints_gathered (λ x. x) c.deref-in-I64.result.now _ (pos 0) _ (places_of c.args.places.now)
      (ap (map (λ x. x)) c.deref-in-I64.ensures.value ∙ ap numbers (sym c.in-I64.is)) c.requires
      (c.in_ok-gather-in-I64.ensures (pos 0)),
)

pub returns-in_ok-gather-in-U8 : goal.returns-in_ok-gather-in-U8
returns-in_ok-gather-in-U8 c = (
  ap ptype_of (sym c.in-U8.is),
  ints_gathered pos c.deref-in-U8.result.now _ 0 _ (places_of c.args.places.now)
      (ap (map pos) c.deref-in-U8.ensures.value ∙ ap numbers (sym c.in-U8.is)) c.requires
      (c.in_ok-gather-in-U8.ensures 0),
)

pub returns-in_ok-gather-in-U16 : goal.returns-in_ok-gather-in-U16
returns-in_ok-gather-in-U16 c = (
  ap ptype_of (sym c.in-U16.is),
  ints_gathered pos c.deref-in-U16.result.now _ 0 _ (places_of c.args.places.now)
      (ap (map pos) c.deref-in-U16.ensures.value ∙ ap numbers (sym c.in-U16.is)) c.requires
      (c.in_ok-gather-in-U16.ensures 0),
)

pub returns-in_ok-gather-in-U32 : goal.returns-in_ok-gather-in-U32
returns-in_ok-gather-in-U32 c = (
  ap ptype_of (sym c.in-U32.is),
  ints_gathered pos c.deref-in-U32.result.now _ 0 _ (places_of c.args.places.now)
      (ap (map pos) c.deref-in-U32.ensures.value ∙ ap numbers (sym c.in-U32.is)) c.requires
      (c.in_ok-gather-in-U32.ensures 0),
)

pub returns-in_ok-gather-in-U64 : goal.returns-in_ok-gather-in-U64
returns-in_ok-gather-in-U64 c = (
  ap ptype_of (sym c.in-U64.is),
  ints_gathered pos c.deref-in-U64.result.now _ 0 _ (places_of c.args.places.now)
      (ap (map pos) c.deref-in-U64.ensures.value ∙ ap numbers (sym c.in-U64.is)) c.requires
      (c.in_ok-gather-in-U64.ensures 0),
)
