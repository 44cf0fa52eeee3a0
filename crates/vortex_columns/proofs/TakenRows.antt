-- Taken rows of a column's storage are the storage of the taken rows.
use Rattle.std.proofs.Common.{◌≡◌, ℕ, ◌<◌, pos, Bool, false, List, [], ◌∷◌, map}
use Rattle.std.proofs.Common.{length, refl, sym, ap, ◌∙◌, subst, arith, cond}
use Rattle.std.specs.Prelude.{slice_index, slice_index_or, All}
use Rattle.std.proofs.lemmas.List.{get_or-map, length-map, same_lists}
use Rattle.vortex_types.specs.LogicalTypes.{LogicalType, Fields, no_fields, field}
use Rattle.vortex_types.specs.Values.{Value, null, truth, number, text, bytes, list, values_of}
use Rattle.vortex_types.specs.Typing.{FitsPType, HasType}
use Rattle.vortex_types.specs.TypeOf.{type_of}
use Rattle.vortex_columns.specs.declared.column.Column.TheInside.{Inside}
use Rattle.vortex_columns.specs.ColumnView.{ColumnView, row, part, entries, LieWithin}
use Rattle.vortex_columns.specs.ValidityView.{ValidityForm, non_nullable, all_valid, all_invalid}
use Rattle.vortex_columns.specs.ValidityView.{array, is_valid_by, ValidityView}
use Rattle.vortex_columns.specs.ValidityView.{form_allows_null, FitsRowsBy, Reaches}
use Rattle.vortex_columns.specs.Stored.{Kept, bools, integers, texts, byte_strings, structs, lists}
use Rattle.vortex_columns.specs.Stored.{fixed_size_lists, maps, AreFields, Stored, nulls}
use Rattle.vortex_columns.specs.Stored.{constant_of, kept, stored_of, stored_validity, kept_at}
use Rattle.vortex_columns.specs.Stored.{constant_in, row_at, rows_of, AreKept, IsStored, IsTextAt}
use Rattle.vortex_columns.specs.Stored.{column_view, IsColumn, HasRow}
use Rattle.vortex_columns.specs.Taken.{taken, taken_kept, taken_bits, taken_stored, ArePlaces}
use Rattle.vortex_columns.specs.Taken.{element_places}
use Rattle.vortex_columns.proofs.ElementPlaces.{all_gathered, length_element_places}
use Rattle.vortex_columns.proofs.ElementPlaces.{element_places_within, elements_taken}
use Rattle.vortex_columns.proofs.StoredRows.{length_rows, row_is, opened_len, one_more_fits}
use Rattle.vortex_columns.proofs.StoredRows.{row_constant, opened_has_row}

lie_within_taken : (count : ℕ) (offsets sizes ps : List ℕ) → All (λ p. p < length offsets) ps
    → LieWithin count offsets sizes
    → LieWithin count (map (slice_index offsets) ps) (map (slice_index sizes) ps)
lie_within_taken count offsets sizes ps within lie i h =
    let here : i < length ps = omega (arith, h, length-map ps (slice_index offsets)) in
    omega (
      arith,
      get_or-map (slice_index offsets) ps i 0 0 here,
      get_or-map (slice_index sizes) ps i 0 0 here,
      lie (slice_index ps i) (within i 0 here),
    )

are_fields_taken : (n : ℕ) (fs : Fields) (cs : List ColumnView) (ps : List ℕ)
    → All (λ p. p < n) ps → AreFields n fs cs → AreFields (length ps) fs (map (taken ps) cs)
are_fields_taken n no_fields [] ps within h = tt
are_fields_taken n (field name t fs) (c ∷ cs) ps within h = (
  h.0,
  length-map ps (row c.rows),
  all_gathered (HasType c.dtype) c.rows null ps
      (subst (λ (m : ℕ). All (λ p. p < m) ps) (sym h.1) within) h.2,
  are_fields_taken n fs cs ps within h.3,
)
are_fields_taken n no_fields (c ∷ cs) ps within h = absurd h
are_fields_taken n (field name t fs) [] ps within h = absurd h

are_kept_taken : (n : ℕ) (t : LogicalType) (m : Bool) (k : Kept) (ps : List ℕ)
    → All (λ p. p < n) ps → AreKept n t m k → AreKept (length ps) t m (taken_kept ps k)
are_kept_taken n t m (bools bits) ps within a =
    (a.0, length-map ps (λ i. slice_index_or bits i false))
are_kept_taken n t m (integers p ns) ps within a = (
  a.0,
  length-map ps (λ i. slice_index_or ns i (pos 0)),
  all_gathered (FitsPType p) ns (pos 0) ps
      (subst (λ (m : ℕ). All (λ p. p < m) ps) (sym a.1) within) a.2,
)
are_kept_taken n t m (texts ts) ps within a = (a.0, length-map ps (λ i. slice_index_or ts i []))
are_kept_taken n t m (byte_strings bs) ps within a = (
  a.0,
  length-map ps (λ i. slice_index_or bs i []),
  all_gathered (All (λ b. b < 256)) bs [] ps
      (subst (λ (m : ℕ). All (λ p. p < m) ps) (sym a.1) within) a.2,
)
are_kept_taken n t m (structs cs) ps within a = (a.0, a.1, are_fields_taken n a.0 cs ps within a.2)
are_kept_taken n t m (lists e offsets sizes) ps within a = (
  a.0,
  length-map ps (slice_index offsets),
  length-map ps (slice_index sizes),
  lie_within_taken (length e.rows) offsets sizes ps
      (subst (λ (m : ℕ). All (λ p. p < m) ps) (sym a.1) within) a.3,
  a.4,
)
are_kept_taken n t m (fixed_size_lists e size) ps within a = (
  a.0,
  length-map (element_places size ps) (row e.rows) ∙ length_element_places size ps,
  all_gathered (HasType e.dtype) e.rows null (element_places size ps)
      (element_places_within size ps n (length e.rows) within a.1) a.2,
)
are_kept_taken n t m (maps k v offsets sizes) ps within a = (
  a.0,
  length-map ps (slice_index offsets),
  length-map ps (slice_index sizes),
  a.3,
  lie_within_taken (length k.rows) offsets sizes ps
      (subst (λ (m : ℕ). All (λ p. p < m) ps) (sym a.1) within) a.4,
  a.5,
  a.6,
)

bits_fit : (f : ValidityForm) (bits : List Bool) (n : ℕ) (ps : List ℕ) → FitsRowsBy f bits n
    → FitsRowsBy f (taken_bits f ps bits) (length ps)
bits_fit non_nullable bits n ps h = tt
bits_fit all_valid bits n ps h = tt
bits_fit all_invalid bits n ps h = tt
bits_fit array bits n ps h = length-map ps (λ i. slice_index_or bits i false)

-- whether a taken row is valid
valid_taken : (f : ValidityForm) (bits : List Bool) (ps : List ℕ) (j : ℕ) → j < length ps
    → is_valid_by f (taken_bits f ps bits) j ≡ is_valid_by f bits (slice_index ps j)
valid_taken non_nullable bits ps j h = refl
valid_taken all_valid bits ps j h = refl
valid_taken all_invalid bits ps j h = refl
valid_taken array bits ps j h = get_or-map (λ i. slice_index_or bits i false) ps j 0 false h

text_taken : (k : Kept) (ps : List ℕ) (j : ℕ) → j < length ps → IsTextAt (slice_index ps j) k
    → IsTextAt j (taken_kept ps k)
text_taken (bools bits) ps j h x = tt
text_taken (integers p ns) ps j h x = tt
text_taken (texts ts) ps j h x =
    subst (λ (bs : List ℕ). IsTextAt 0 (texts (bs ∷ [])))
    (sym (get_or-map (λ i. slice_index_or ts i []) ps j 0 [] h)) x
text_taken (byte_strings bs) ps j h x = tt
text_taken (structs cs) ps j h x = tt
text_taken (lists e offsets sizes) ps j h x = tt
text_taken (fixed_size_lists e size) ps j h x = tt
text_taken (maps k v offsets sizes) ps j h x = tt

pub is_stored_taken : (n : ℕ) (t : LogicalType) (s : Stored) (ps : List ℕ)
    → All (λ p. p < n) ps → IsStored n t s → IsStored (length ps) t (taken_stored ps s)
is_stored_taken n t nulls ps within a = a
is_stored_taken n t (constant_of s) ps within a = a
is_stored_taken n t (kept k v) ps within a = (
  are_kept_taken n t (form_allows_null v.form) k ps within a.0,
  bits_fit v.form v.bits n ps a.1,
  λ j h valid. text_taken k ps j h
      (a.2 (slice_index ps j) (within j 0 h) (sym (valid_taken v.form v.bits ps j h) ∙ valid)),
)

-- the value of a taken row
fields_taken : (cs : List ColumnView) (ps : List ℕ) (j : ℕ) → j < length ps
    → map (λ c. row c.rows j) (map (taken ps) cs) ≡ map (λ c. row c.rows (slice_index ps j)) cs
fields_taken [] ps j h = refl
fields_taken (c ∷ cs) ps j h =
    λ i. get_or-map (row c.rows) ps j 0 null h i ∷ fields_taken cs ps j h i

kept_taken : (n : ℕ) (t : LogicalType) (m : Bool) (k : Kept) (ps : List ℕ) (j : ℕ)
    → All (λ p. p < n) ps → AreKept n t m k → j < length ps
    → kept_at (taken_kept ps k) j ≡ kept_at k (slice_index ps j)
kept_taken n t m (bools bits) ps j within a h =
    ap truth (get_or-map (λ i. slice_index_or bits i false) ps j 0 false h)
kept_taken n t m (integers p ns) ps j within a h =
    ap number (get_or-map (λ i. slice_index_or ns i (pos 0)) ps j 0 (pos 0) h)
kept_taken n t m (texts ts) ps j within a h =
    ap text (get_or-map (λ i. slice_index_or ts i []) ps j 0 [] h)
kept_taken n t m (byte_strings bs) ps j within a h =
    ap bytes (get_or-map (λ i. slice_index_or bs i []) ps j 0 [] h)
kept_taken n t m (structs cs) ps j within a h =
    ap (λ (vs : List Value). list (values_of vs)) (fields_taken cs ps j h)
kept_taken n t m (lists e offsets sizes) ps j within a h =
    λ i.
    part e.rows (get_or-map (slice_index offsets) ps j 0 0 h i)
    (get_or-map (slice_index sizes) ps j 0 0 h i)
kept_taken n t m (fixed_size_lists e size) ps j within a h =
    elements_taken e.rows size ps j h
    (omega (arith, a.1, one_more_fits size (slice_index ps j) n (within j 0 h)))
kept_taken n t m (maps k v offsets sizes) ps j within a h =
    λ i.
    part (entries k.rows v.rows) (get_or-map (slice_index offsets) ps j 0 0 h i)
    (get_or-map (slice_index sizes) ps j 0 0 h i)

row_taken : (n : ℕ) (t : LogicalType) (s : Stored) (ps : List ℕ) (j : ℕ)
    → All (λ p. p < n) ps → IsStored n t s → j < length ps
    → row_at (taken_stored ps s) j ≡ row_at s (slice_index ps j)
row_taken n t nulls ps j within a h = refl
row_taken n t (constant_of s) ps j within a h =
    row_constant s j ∙ sym (row_constant s (slice_index ps j))
row_taken n t (kept k v) ps j within a h =
    λ i.
    cond (valid_taken v.form v.bits ps j h i)
    (kept_taken n t (form_allows_null v.form) k ps j within a.0 h i) null

rows_taken : (n : ℕ) (t : LogicalType) (s : Stored) (ps : List ℕ) → All (λ p. p < n) ps
    → IsStored n t s
    → rows_of (length ps) (taken_stored ps s) ≡ map (row (rows_of n s)) ps
rows_taken n t s ps within a =
    let many = length_rows (length ps) (taken_stored ps s) in
    same_lists (rows_of (length ps) (taken_stored ps s)) (map (row (rows_of n s)) ps)
    (many ∙ sym (length-map ps (row (rows_of n s))))
    (λ j d h.
    let here : j < length ps = omega (arith, many, h) in
    row_is (length ps) (taken_stored ps s) j d here ∙ row_taken n t s ps j within a here
    ∙ sym (row_is n s (slice_index ps j) null (within j 0 here))
    ∙ sym (get_or-map (row (rows_of n s)) ps j 0 d here))

constant_taken : (s : Stored) (ps : List ℕ) → constant_in (taken_stored ps s) ≡ constant_in s
constant_taken nulls ps = refl
constant_taken (constant_of s) ps = refl
constant_taken (kept k v) ps = refl

form_taken : (s : Stored) (ps : List ℕ)
    → (stored_validity (taken_stored ps s)).form ≡ (stored_validity s).form
form_taken nulls ps = refl
form_taken (constant_of s) ps = refl
form_taken (kept k v) ps = refl

-- what is read of an opened column
module _ (a : Inside) (c : ColumnView) (is : column_view a ≡ c) (ok : IsColumn a) (ps : List ℕ)
    (within : All (λ p. p < length c.rows) ps) (k : Kept) (v : ValidityView)
    (at : stored_of a.storage ≡ kept k v)
  where
    has_rows : All (λ i. HasRow i (kept k v)) ps
    has_rows j d h =
        subst (λ (s : Stored). HasRow (slice_index_or ps j d) s) at
        (opened_has_row a c is (slice_index_or ps j d) ok (within j d h))

    pub opened_places : ArePlaces ps k
    opened_places j d h = (has_rows j d h).0

    pub opened_reach : All (Reaches v) ps
    opened_reach j d h = (has_rows j d h).1

-- the same for an opened column: made of its type and of what is taken of its storage
module _ (a : Inside) (c : ColumnView) (is : column_view a ≡ c) (ok : IsColumn a) (ps : List ℕ)
    (within : All (λ p. p < length c.rows) ps) (t : LogicalType) (same : t ≡ type_of a.dtype)
    (n : ℕ) (count : n ≡ length ps) (s : Stored) (so : s ≡ taken_stored ps (stored_of a.storage))
  where
    within_here : All (λ p. p < a.len) ps
    within_here = subst (λ (m : ℕ). All (λ p. p < m) ps) (sym (opened_len a c is)) within

    pub opened_taken_stored : IsStored n t s
    opened_taken_stored =
        subst (λ (m : ℕ). IsStored m t s) (sym count)
        (subst (λ (u : LogicalType). IsStored (length ps) u s) (sym same)
        (subst (λ (r : Stored). IsStored (length ps) (type_of a.dtype) r) (sym so)
        (is_stored_taken a.len (type_of a.dtype) (stored_of a.storage) ps within_here ok)))

    pub opened_taken_view :
        record {
          dtype = t;
          rows = rows_of n s;
          constant = constant_in s;
          form = (stored_validity s).form;
        }
        ≡ taken ps c
    opened_taken_view =
        (λ j.
        record {
          dtype = same j;
          rows =
              ((λ i. rows_of (count i) (so i))
              ∙ rows_taken a.len (type_of a.dtype) (stored_of a.storage) ps within_here ok) j;
          constant = (ap constant_in so ∙ constant_taken (stored_of a.storage) ps) j;
          form =
              (ap (λ (r : Stored). (stored_validity r).form) so
              ∙ form_taken (stored_of a.storage) ps)
              j;
        })
        ∙ ap (taken ps) is
