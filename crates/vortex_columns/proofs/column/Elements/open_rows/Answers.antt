use Rattle.std.proofs.Common.{◌≡◌, ◌<◌, ◌∙◌, ℕ, List, length, sym, ap, subst, arith}
use Rattle.std.specs.Prelude.{All, map, slice_index}
use Rattle.vortex_views.specs.Places.{places_of}
use Rattle.vortex_columns.specs.ColumnView.{ColumnView}
use Rattle.vortex_columns.specs.ValidityView.{validity_of}
use Rattle.vortex_columns.specs.ColumnParts.{type_weight, column_weights}
use Rattle.vortex_columns.specs.CopyFrames.{IsStoredUnder, stored_view}
use Rattle.vortex_columns.specs.Stored.{Kept, bools, integers, texts, byte_strings, lists, maps}
use Rattle.vortex_columns.specs.Stored.{kept, kept_of}
use Rattle.vortex_columns.specs.Taken.{ArePlaces, taken_kept}
use Rattle.vortex_columns.specs.TakenFrames.{rows_in}
use Rattle.vortex_columns.specs.declared.column.Elements.{Elements}
use Rattle.vortex_columns.proofs.ColumnWeights.{field_weights, weights_taken}
use Rattle.vortex_columns.proofs.ElementPlaces.{element_places_lie}
use Rattle.vortex_columns.proofs.column.Elements.open_rows.Goals.{in-Bool+in_ok-take_bits-in-Bool}
use Rattle.vortex_columns.proofs.column.Elements.open_rows.Goals.{in-Primitive+in_ok-take_ints-in-Primitive}
use Rattle.vortex_columns.proofs.column.Elements.open_rows.Goals.{in-Utf8+in_ok-gather-in-Utf8}
use Rattle.vortex_columns.proofs.column.Elements.open_rows.Goals.{in-Binary+in_ok-gather-in-Binary}
use Rattle.vortex_columns.proofs.column.Elements.open_rows.Goals.{in-List+in_ok-elements-in-List}
use Rattle.vortex_columns.proofs.column.Elements.open_rows.Goals.{in-Map+in_ok-elements-in-Map}
use Rattle.vortex_columns.proofs.column.Elements.open_rows.Goals.{Joined-self}
use Rattle.vortex_columns.proofs.column.Elements.open_rows.Goals as goal

-- what is read of values of one kind
lie : (e f : Elements) (ps qs : List ℕ) → e ≡ f → qs ≡ ps → ArePlaces ps (kept_of e)
    → ArePlaces qs (kept_of f)
lie e f ps qs is same h =
    subst (λ (g : Elements). ArePlaces qs (kept_of g)) is
    (subst (λ (rs : List ℕ). ArePlaces rs (kept_of e)) (sym same) h)

pub take_bits-requires : goal.take_bits-requires
take_bits-requires c = lie _ _ _ _ c.in-Bool.is c.places-places.ensures c.requires.places

pub take_ints-requires : goal.take_ints-requires
take_ints-requires c = lie _ _ _ _ c.in-Primitive.is c.places-places.ensures c.requires.places

pub gather-requires : goal.gather-requires
gather-requires c = lie _ _ _ _ c.in-Utf8.is c.places-places.ensures c.requires.places

pub gather-requires-in-Binary : goal.gather-requires-in-Binary
gather-requires-in-Binary c = lie _ _ _ _ c.in-Binary.is c.places-places.ensures c.requires.places

pub with_taken_fields-requires-clause-reach : goal.with_taken_fields-requires-clause-reach
with_taken_fields-requires-clause-reach c =
    subst
    (λ (cs : List ColumnView). All (λ f. All (λ i. i < length f.rows) (rows_in c.args.rows)) cs)
    (sym c.as_slice.ensures.value)
    (λ j e b k d h.
    subst (λ (e : Elements). ArePlaces (rows_in c.args.rows) (kept_of e)) c.in-Struct.is
    c.requires.places k d h j e b)

pub returns-in-Struct-clause-falls : goal.returns-in-Struct-clause-falls
returns-in-Struct-clause-falls c =
    let fields =
    subst
    (λ (e : Elements). IsStoredUnder c.args.head
    (kept (taken_kept (rows_in c.args.rows) (kept_of e)) (validity_of c.args.validity)))
    c.in-Struct.is c.requires.stored in
    omega (
      arith,
      ap type_weight fields.0.1,
      field_weights _ fields.0.0 _ fields.0.2,
      weights_taken (rows_in c.args.rows) c.in-Struct.fields.items,
      ap column_weights c.as_slice.ensures.value,
      c.with_taken_fields.ensures.falls,
    )

pub take_lists-requires-clause-offsets : goal.take_lists-requires-clause-offsets
take_lists-requires-clause-offsets c k d h =
    (lie _ _ _ _ c.in-List.is c.places-places.ensures c.requires.places k d h).0

pub take_lists-requires-clause-sizes : goal.take_lists-requires-clause-sizes
take_lists-requires-clause-sizes c k d h =
    (lie _ _ _ _ c.in-List.is c.places-places.ensures c.requires.places k d h).1

pub element_places-requires : goal.element_places-requires
element_places-requires c k d h =
    let here = lie _ _ _ _ c.in-FixedSizeList.is c.places-places.ensures c.requires.places k d h in
    omega (
      arith,
      here,
      c.len.ensures,
      c.len.type_inv,
      ap (λ e. length e.rows) c.deref-in-FixedSizeList.ensures,
    )

pub with_taken_elements-requires-clause-reach : goal.with_taken_elements-requires-clause-reach
with_taken_elements-requires-clause-reach c =
    let size = c.in-FixedSizeList.size in
    let count = length c.in-FixedSizeList.elements.value.rows in
    let within =
    subst (λ (es : List ℕ). All (λ i. i < count) es)
    (sym c.in_ok-places-in-FixedSizeList.ensures)
    (element_places_lie size (places_of c.places-places.result) count
    (lie _ _ _ _ c.in-FixedSizeList.is c.places-places.ensures c.requires.places)) in
    λ k d h. omega
    (arith, within k d h, ap (λ e. length e.rows) c.deref-in-FixedSizeList-2.ensures)

pub take_maps-requires-clause-offsets : goal.take_maps-requires-clause-offsets
take_maps-requires-clause-offsets c k d h =
    (lie _ _ _ _ c.in-Map.is c.places-places.ensures c.requires.places k d h).0

pub take_maps-requires-clause-sizes : goal.take_maps-requires-clause-sizes
take_maps-requires-clause-sizes c k d h =
    (lie _ _ _ _ c.in-Map.is c.places-places.ensures c.requires.places k d h).1

-- the result for values of one kind is what is taken of them
made : (e f : Elements) (g h : Elements) (ps qs : List ℕ) → e ≡ f → g ≡ h → qs ≡ ps
    → kept_of h ≡ taken_kept qs (kept_of f) → kept_of g ≡ taken_kept ps (kept_of e)
made e f g h ps qs is out same so =
    ap kept_of out ∙ so ∙ (λ i. taken_kept (same i) (kept_of (sym is i)))

-- the result is what is taken
so : (c : Joined-self)
    → kept_of c.match-self.elements ≡ taken_kept (rows_in c.args.rows) (kept_of c.args.self.now)
so c =
    let at = places_of c.places-places.result in
    elim c.match-self.branch [
      | in-Bool+in_ok-take_bits-in-Bool w ↦
          made _ _ _ _ _ _ w.in-Bool.is w.elements-is c.places-places.ensures
          (ap bools w.in_ok-take_bits-in-Bool.ensures)
      | in-Primitive+in_ok-take_ints-in-Primitive w ↦
          let ints = w.in_ok-take_ints-in-Primitive.ensures in
          made _ _ _ _ _ _ w.in-Primitive.is w.elements-is c.places-places.ensures
          (λ i. integers (ints.0 i) (ints.1 i))
      | in-Utf8+in_ok-gather-in-Utf8 w ↦
          made _ _ _ _ _ _ w.in-Utf8.is w.elements-is c.places-places.ensures
          (ap texts w.in_ok-gather-in-Utf8.ensures)
      | in-Binary+in_ok-gather-in-Binary w ↦
          made _ _ _ _ _ _ w.in-Binary.is w.elements-is c.places-places.ensures
          (ap byte_strings w.in_ok-gather-in-Binary.ensures)
      | in-List+in_ok-elements-in-List w ↦
          made _ _ _ _ _ _ w.in-List.is w.elements-is c.places-places.ensures
          (w.in_ok-elements-in-List.ensures
          ∙ (λ i. lists (w.deref.ensures i) (map (slice_index w.in-List.offsets.items) at)
          (map (slice_index w.in-List.sizes.items) at)))
      | in-Map+in_ok-elements-in-Map w ↦
          made _ _ _ _ _ _ w.in-Map.is w.elements-is c.places-places.ensures
          (w.in_ok-elements-in-Map.ensures
          ∙ (λ i. maps (w.deref-in-Map.ensures i) (w.deref-in-Map-2.ensures i)
          (map (slice_index w.in-Map.offsets.items) at)
          (map (slice_index w.in-Map.sizes.items) at)))
    ]

pub with_rows-requires : goal.with_rows-requires
with_rows-requires c =
    subst (λ (k : Kept). IsStoredUnder c.args.head (kept k (validity_of c.args.validity)))
    (sym (so c)) c.requires.stored

pub returns-clause-column : goal.returns-clause-column
returns-clause-column c =
    c.with_rows.ensures
    ∙ ap (λ (k : Kept). stored_view c.args.head (kept k (validity_of c.args.validity)))
    (so (goal.at.returns-clause-column c).Joined-self)
