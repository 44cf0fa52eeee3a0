-- A column's parts and its rows.
use Rattle.std.proofs.Common.{◌≡◌, ℕ, zero, suc, ◌<◌, ℤ, Bool, true, false, not, List, [], ◌∷◌, map}
use Rattle.std.proofs.Common.{length, refl, sym, ap, ◌∙◌, subst, arith}
use Rattle.std.specs.Prelude.{slice_index_or, Option, Some, None, MatchOption}
use Rattle.std.specs.List.{range_with_len}
use Rattle.vortex_types.specs.declared.dtype.PType.{PType}
use Rattle.vortex_types.specs.LogicalTypes.{LogicalType, Fields, no_fields, field, field_count}
use Rattle.vortex_types.specs.LogicalTypes.{field_type, list_type, fixed_size_list_type, map_type}
use Rattle.vortex_types.specs.LogicalTypes.{is_bool_type, is_nullable}
use Rattle.vortex_types.specs.Values.{values_of, nth_value, is_null}
use Rattle.vortex_columns.specs.ColumnView.{ColumnView, row, HasBits, AreBits, HasInts, AreInts}
use Rattle.vortex_columns.specs.ColumnView.{IsIntegerType, HasBytes, AreBytes, is_bytes_like}
use Rattle.vortex_columns.specs.ColumnView.{bytes_value, fields_in, value_in, HasField, IsField}
use Rattle.vortex_columns.specs.ColumnView.{HasKind, is_list_type, is_fixed_size_list_type}
use Rattle.vortex_columns.specs.ColumnView.{is_map_type, AreLists, AreFixedSizeLists, AreMaps}
use Rattle.vortex_columns.specs.ColumnView.{constant_column, constant_form}
use Rattle.vortex_types.specs.ScalarView.{ScalarView}
use Rattle.vortex_columns.specs.ValidityView.{ValidityView, form_allows_null}
use Rattle.vortex_columns.specs.Stored.{Kept, bools, integers, texts, byte_strings, structs, lists}
use Rattle.vortex_columns.specs.Stored.{fixed_size_lists, maps, AreFields, Stored, constant_of}
use Rattle.vortex_columns.specs.Stored.{kept, stored_of, stored_validity, constant_in, kept_at}
use Rattle.vortex_columns.specs.Stored.{value_at, rows_of, AreKept, IsStored, column_view, IsColumn}
use Rattle.vortex_types.specs.TypeOf.{type_of}
use Rattle.vortex_columns.specs.KeptParts.{KeptBits, KeptInts, KeptBytes, KeptField, IsKeptField}
use Rattle.vortex_columns.specs.KeptParts.{KeptLists, KeptFixedSizeLists, KeptMaps, kept_bytes}
use Rattle.vortex_columns.specs.declared.column.Column.TheInside.{Inside}
use Rattle.vortex_columns.proofs.StoredRows.{opened_len, opened_stored, opened_value, row_constant}

pub match_weaker : {X : Type 0} (P Q : Type 0) (R S : X → Type 0) (o : Option X) → (P → Q)
    → ((x : X) → R x → S x) → MatchOption o P R → MatchOption o Q S
match_weaker P Q R S None f g h = f h
match_weaker P Q R S (Some x) f g h = g x h

-- an opened column, whose storage has values
module _ (a : Inside) (c : ColumnView) (is : column_view a ≡ c) (ok : IsColumn a) (k : Kept)
    (v : ValidityView) (at : stored_of a.storage ≡ kept k v) where
  pub kept_here : AreKept (length c.rows) c.dtype (form_allows_null v.form) k
  kept_here =
      (subst (λ (s : Stored). IsStored (length c.rows) c.dtype s) at (opened_stored a c is ok)).0

  pub computed : c.constant ≡ None
  computed = sym (ap (λ (d : ColumnView). d.constant) is) ∙ ap constant_in at

  pub value_here : (i : ℕ) → i < length c.rows → is_null (row c.rows i) ≡ false
      → row c.rows i ≡ kept_at k i
  value_here i h valid = opened_value a c is i h valid ∙ ap (λ (s : Stored). value_at s i) at

-- a column without values has none of these parts
no_bits : (n : ℕ) (t : LogicalType) (m : Bool) (k : Kept) → AreKept n t m k → is_bool_type t ≡ true
    → KeptBits k
no_bits n t m (bools bits) a h = tt
no_bits n t m (integers p ns) a h = let e = ap is_bool_type a.0 in cc
no_bits n t m (texts ts) a h = let e = ap is_bool_type a.0 in cc
no_bits n t m (byte_strings bs) a h = let e = ap is_bool_type a.0 in cc
no_bits n t m (structs cs) a h = let e = ap is_bool_type a.1 in cc
no_bits n t m (lists e offsets sizes) a h = let e = ap is_bool_type a.0 in cc
no_bits n t m (fixed_size_lists e size) a h = let e = ap is_bool_type a.0 in cc
no_bits n t m (maps l w offsets sizes) a h = let e = ap is_bool_type a.0 in cc

no_ints : (p : PType) (n : ℕ) (t : LogicalType) (m : Bool) (k : Kept) → AreKept n t m k
    → IsIntegerType p t → KeptInts p k
no_ints p n t m (bools bits) a h = absurd (subst (IsIntegerType p) a.0 h)
no_ints p n t m (integers q ns) a h = subst (IsIntegerType p) a.0 h
no_ints p n t m (texts ts) a h = absurd (subst (IsIntegerType p) a.0 h)
no_ints p n t m (byte_strings bs) a h = absurd (subst (IsIntegerType p) a.0 h)
no_ints p n t m (structs cs) a h = absurd (subst (IsIntegerType p) a.1 h)
no_ints p n t m (lists e offsets sizes) a h = absurd (subst (IsIntegerType p) a.0 h)
no_ints p n t m (fixed_size_lists e size) a h = absurd (subst (IsIntegerType p) a.0 h)
no_ints p n t m (maps l w offsets sizes) a h = absurd (subst (IsIntegerType p) a.0 h)

no_bytes : (n : ℕ) (t : LogicalType) (m : Bool) (k : Kept) → AreKept n t m k
    → is_bytes_like t ≡ true → KeptBytes k
no_bytes n t m (bools bits) a h = let e = ap is_bytes_like a.0 in cc
no_bytes n t m (integers q ns) a h = let e = ap is_bytes_like a.0 in cc
no_bytes n t m (texts ts) a h = tt
no_bytes n t m (byte_strings bs) a h = tt
no_bytes n t m (structs cs) a h = let e = ap is_bytes_like a.1 in cc
no_bytes n t m (lists e offsets sizes) a h = let e = ap is_bytes_like a.0 in cc
no_bytes n t m (fixed_size_lists e size) a h = let e = ap is_bytes_like a.0 in cc
no_bytes n t m (maps l w offsets sizes) a h = let e = ap is_bytes_like a.0 in cc

bytes_are : (n : ℕ) (t : LogicalType) (m : Bool) (k : Kept) → AreKept n t m k → KeptBytes k
    → (is_bytes_like t ≡ true) × (length (kept_bytes k) ≡ n)
    × ((i : ℕ) → kept_at k i ≡ bytes_value t (slice_index_or (kept_bytes k) i []))
bytes_are n t m (bools bits) a h = absurd h
bytes_are n t m (integers q ns) a h = absurd h
bytes_are n t m (texts ts) a h = (
  ap is_bytes_like a.0,
  a.1,
  λ i. ap (λ (u : LogicalType). bytes_value u (slice_index_or ts i [])) (sym a.0),
)
bytes_are n t m (byte_strings bs) a h = (
  ap is_bytes_like a.0,
  a.1,
  λ i. ap (λ (u : LogicalType). bytes_value u (slice_index_or bs i [])) (sym a.0),
)
bytes_are n t m (structs cs) a h = absurd h
bytes_are n t m (lists e offsets sizes) a h = absurd h
bytes_are n t m (fixed_size_lists e size) a h = absurd h
bytes_are n t m (maps l w offsets sizes) a h = absurd h

-- the fields of a struct column
fields_count : (n : ℕ) (fs : Fields) (cs : List ColumnView) → AreFields n fs cs
    → field_count fs ≡ length cs
fields_count n no_fields [] h = refl
fields_count n (field name t fs) (c ∷ cs) h = ap suc (fields_count n fs cs h.3)
fields_count n no_fields (c ∷ cs) h = absurd h
fields_count n (field name t fs) [] h = absurd h

field_here : (n : ℕ) (fs : Fields) (cs : List ColumnView) (k : ℕ) (d : ColumnView)
    → AreFields n fs cs → k < length cs
    → ((slice_index_or cs k d).dtype ≡ field_type k fs) × (length (slice_index_or cs k d).rows ≡ n)
field_here n no_fields [] k d h b = absurd (omega arith)
field_here n (field name t fs) (c ∷ cs) zero d h b = (h.0, h.1)
field_here n (field name t fs) (c ∷ cs) (suc k) d h b = field_here n fs cs k d h.3 (omega arith)
field_here n no_fields (c ∷ cs) k d h b = absurd h
field_here n (field name t fs) [] k d h b = absurd h

nth_of_map : (cs : List ColumnView) (i k : ℕ) (d : ColumnView) → k < length cs
    → nth_value k (values_of (map (λ c. row c.rows i) cs)) ≡ row (slice_index_or cs k d).rows i
nth_of_map [] i k d b = absurd (omega arith)
nth_of_map (c ∷ cs) i zero d b = refl
nth_of_map (c ∷ cs) i (suc k) d b = nth_of_map cs i k d (omega arith)

no_field : (j : ℕ) (n : ℕ) (t : LogicalType) (m : Bool) (k : Kept) → AreKept n t m k
    → j < field_count (fields_in t) → KeptField j k
no_field j n t m (bools bits) a h = let e =
    ap (λ (u : LogicalType). field_count (fields_in u)) a.0 in
    absurd (omega arith)
no_field j n t m (integers q ns) a h = let e =
    ap (λ (u : LogicalType). field_count (fields_in u)) a.0 in
    absurd (omega arith)
no_field j n t m (texts ts) a h = let e = ap (λ (u : LogicalType). field_count (fields_in u)) a.0 in
    absurd (omega arith)
no_field j n t m (byte_strings bs) a h = let e =
    ap (λ (u : LogicalType). field_count (fields_in u)) a.0 in
    absurd (omega arith)
no_field j n t m (structs cs) a h =
    omega
    (arith, ap (λ (u : LogicalType). field_count (fields_in u)) a.1, fields_count n a.0 cs a.2)
no_field j n t m (lists e offsets sizes) a h = let e =
    ap (λ (u : LogicalType). field_count (fields_in u)) a.0 in
    absurd (omega arith)
no_field j n t m (fixed_size_lists e size) a h = let e =
    ap (λ (u : LogicalType). field_count (fields_in u)) a.0 in
    absurd (omega arith)
no_field j n t m (maps l w offsets sizes) a h = let e =
    ap (λ (u : LogicalType). field_count (fields_in u)) a.0 in
    absurd (omega arith)

field_is : (j : ℕ) (n : ℕ) (t : LogicalType) (m : Bool) (k : Kept) (d : ColumnView)
    → AreKept n t m k → IsKeptField j k d
    → (j < field_count (fields_in t)) × (d.dtype ≡ field_type j (fields_in t)) × (length d.rows ≡ n)
    × ((i : ℕ) → row d.rows i ≡ value_in j (kept_at k i))
field_is j n t m (bools bits) d a h = absurd h
field_is j n t m (integers q ns) d a h = absurd h
field_is j n t m (texts ts) d a h = absurd h
field_is j n t m (byte_strings bs) d a h = absurd h
field_is j n t m (structs cs) d a h =
    let found = field_here n a.0 cs j d a.2 h.0 in (
      omega (
        arith,
        ap (λ (u : LogicalType). field_count (fields_in u)) a.1,
        fields_count n a.0 cs a.2,
        h.0,
      ),
      ap (λ (e : ColumnView). e.dtype) h.1 ∙ found.0
          ∙ sym (ap (λ (u : LogicalType). field_type j (fields_in u)) a.1),
      ap (λ (e : ColumnView). length e.rows) h.1 ∙ found.1,
      λ i. ap (λ (e : ColumnView). row e.rows i) h.1 ∙ sym (nth_of_map cs i j d h.0),
    )
field_is j n t m (lists e offsets sizes) d a h = absurd h
field_is j n t m (fixed_size_lists e size) d a h = absurd h
field_is j n t m (maps l w offsets sizes) d a h = absurd h

no_lists : (n : ℕ) (t : LogicalType) (m : Bool) (k : Kept) → AreKept n t m k → is_list_type t ≡ true
    → KeptLists k
no_lists n t m (bools bits) a h = let e = ap is_list_type a.0 in cc
no_lists n t m (integers q ns) a h = let e = ap is_list_type a.0 in cc
no_lists n t m (texts ts) a h = let e = ap is_list_type a.0 in cc
no_lists n t m (byte_strings bs) a h = let e = ap is_list_type a.0 in cc
no_lists n t m (structs cs) a h = let e = ap is_list_type a.1 in cc
no_lists n t m (lists e offsets sizes) a h = tt
no_lists n t m (fixed_size_lists e size) a h = let e = ap is_list_type a.0 in cc
no_lists n t m (maps l w offsets sizes) a h = let e = ap is_list_type a.0 in cc

no_fixed : (n : ℕ) (t : LogicalType) (m : Bool) (k : Kept) → AreKept n t m k
    → is_fixed_size_list_type t ≡ true → KeptFixedSizeLists k
no_fixed n t m (bools bits) a h = let e = ap is_fixed_size_list_type a.0 in cc
no_fixed n t m (integers q ns) a h = let e = ap is_fixed_size_list_type a.0 in cc
no_fixed n t m (texts ts) a h = let e = ap is_fixed_size_list_type a.0 in cc
no_fixed n t m (byte_strings bs) a h = let e = ap is_fixed_size_list_type a.0 in cc
no_fixed n t m (structs cs) a h = let e = ap is_fixed_size_list_type a.1 in cc
no_fixed n t m (lists e offsets sizes) a h = let e = ap is_fixed_size_list_type a.0 in cc
no_fixed n t m (fixed_size_lists e size) a h = tt
no_fixed n t m (maps l w offsets sizes) a h = let e = ap is_fixed_size_list_type a.0 in cc

no_maps : (n : ℕ) (t : LogicalType) (m : Bool) (k : Kept) → AreKept n t m k → is_map_type t ≡ true
    → KeptMaps k
no_maps n t m (bools bits) a h = let e = ap is_map_type a.0 in cc
no_maps n t m (integers q ns) a h = let e = ap is_map_type a.0 in cc
no_maps n t m (texts ts) a h = let e = ap is_map_type a.0 in cc
no_maps n t m (byte_strings bs) a h = let e = ap is_map_type a.0 in cc
no_maps n t m (structs cs) a h = let e = ap is_map_type a.1 in cc
no_maps n t m (lists e offsets sizes) a h = let e = ap is_map_type a.0 in cc
no_maps n t m (fixed_size_lists e size) a h = let e = ap is_map_type a.0 in cc
no_maps n t m (maps l w offsets sizes) a h = tt

module _ (a : Inside) (c : ColumnView) (is : column_view a ≡ c) (ok : IsColumn a) (k : Kept)
    (v : ValidityView) (at : stored_of a.storage ≡ kept k v) where
  pub bits_none : ¬ KeptBits k → ¬ HasBits c
  bits_none not h = not (no_bits _ _ _ k (kept_here a c is ok k v at) h.bool)

  pub bits_some : (bits : List Bool) → k ≡ bools bits → HasBits c × AreBits c bits
  bits_some bits e =
      let here =
      subst (λ (l : Kept). AreKept (length c.rows) c.dtype (form_allows_null v.form) l) e
      (kept_here a c is ok k v at) in (
        record { bool = ap is_bool_type here.0; computed = computed a c is ok k v at },
        record {
          count = here.1;
          each =
              λ i h valid. value_here a c is ok k v at i (omega (arith, here.1)) valid
              ∙ ap (λ (l : Kept). kept_at l i) e;
        },
      )

  pub ints_none : (p : PType) → ¬ KeptInts p k → ¬ HasInts p c
  ints_none p not h = not (no_ints p _ _ _ k (kept_here a c is ok k v at) h.integers)

  pub ints_some : (p : PType) (ns : List ℤ) → k ≡ integers p ns → HasInts p c × AreInts c ns
  ints_some p ns e =
      let here =
      subst (λ (l : Kept). AreKept (length c.rows) c.dtype (form_allows_null v.form) l) e
      (kept_here a c is ok k v at) in (
        record {
          integers = subst (IsIntegerType p) (sym here.0) refl;
          computed = computed a c is ok k v at;
        },
        record {
          count = here.1;
          each =
              λ i h valid. value_here a c is ok k v at i (omega (arith, here.1)) valid
              ∙ ap (λ (l : Kept). kept_at l i) e;
        },
      )

  pub bytes_none : ¬ KeptBytes k → ¬ HasBytes c
  bytes_none not h = not (no_bytes _ _ _ k (kept_here a c is ok k v at) h.bytes_like)

  pub bytes_some : (bs : List (List ℕ)) → KeptBytes k → kept_bytes k ≡ bs
      → HasBytes c × AreBytes c bs
  bytes_some bs of e =
      let here = bytes_are _ _ _ k (kept_here a c is ok k v at) of in (
        record { bytes_like = here.0; computed = computed a c is ok k v at },
        record {
          count = ap length (sym e) ∙ here.1;
          each =
              λ i h valid. value_here a c is ok k v at i (omega (arith, here.1, ap length e)) valid
              ∙ here.2 i
              ∙ ap (λ (xs : List (List ℕ)). bytes_value c.dtype (slice_index_or xs i [])) e;
        },
      )

module _ (a : Inside) (c : ColumnView) (is : column_view a ≡ c) (ok : IsColumn a) (k : Kept)
    (v : ValidityView) (at : stored_of a.storage ≡ kept k v) where
  pub field_none : (j : ℕ) → ¬ KeptField j k → ¬ HasField j c
  field_none j not h = not (no_field j _ _ _ k (kept_here a c is ok k v at) h.present)

  pub field_some : (j : ℕ) (d : ColumnView) → IsKeptField j k d → HasField j c × IsField j c d
  field_some j d h =
      let here = field_is j _ _ _ k d (kept_here a c is ok k v at) h in (
        record { present = here.0; computed = computed a c is ok k v at },
        record {
          dtype = here.1;
          count = here.2;
          each =
              λ i b valid. here.3 i ∙ sym (ap (value_in j) (value_here a c is ok k v at i b valid));
        },
      )

  pub lists_none : ¬ KeptLists k → ¬ HasKind is_list_type c
  lists_none not h = not (no_lists _ _ _ k (kept_here a c is ok k v at) h.kind)

  pub lists_some : (e : ColumnView) (offsets sizes : List ℕ) → k ≡ lists e offsets sizes
      → HasKind is_list_type c × AreLists c e offsets sizes
  lists_some e offsets sizes q =
      let here =
      subst (λ (l : Kept). AreKept (length c.rows) c.dtype (form_allows_null v.form) l) q
      (kept_here a c is ok k v at) in (
        record { kind = ap is_list_type here.0; computed = computed a c is ok k v at },
        record {
          dtype = here.0 ∙ ap (list_type e.dtype) (sym (ap is_nullable here.0));
          offset_count = here.1;
          size_count = here.2;
          within = here.3;
          each =
              λ i b valid. value_here a c is ok k v at i b valid ∙ ap (λ (l : Kept). kept_at l i) q;
        },
      )

  pub fixed_none : ¬ KeptFixedSizeLists k → ¬ HasKind is_fixed_size_list_type c
  fixed_none not h = not (no_fixed _ _ _ k (kept_here a c is ok k v at) h.kind)

  pub fixed_some : (e : ColumnView) (size : ℕ) → k ≡ fixed_size_lists e size
      → HasKind is_fixed_size_list_type c × AreFixedSizeLists c e size
  fixed_some e size q =
      let here =
      subst (λ (l : Kept). AreKept (length c.rows) c.dtype (form_allows_null v.form) l) q
      (kept_here a c is ok k v at) in (
        record { kind = ap is_fixed_size_list_type here.0; computed = computed a c is ok k v at },
        record {
          dtype = here.0 ∙ ap (fixed_size_list_type e.dtype size) (sym (ap is_nullable here.0));
          count = here.1;
          each =
              λ i b valid. value_here a c is ok k v at i b valid ∙ ap (λ (l : Kept). kept_at l i) q;
        },
      )

  pub maps_none : ¬ KeptMaps k → ¬ HasKind is_map_type c
  maps_none not h = not (no_maps _ _ _ k (kept_here a c is ok k v at) h.kind)

  pub maps_some : (keys values : ColumnView) (offsets sizes : List ℕ)
      → k ≡ maps keys values offsets sizes
      → HasKind is_map_type c × AreMaps c keys values offsets sizes
  maps_some keys values offsets sizes q =
      let here =
      subst (λ (l : Kept). AreKept (length c.rows) c.dtype (form_allows_null v.form) l) q
      (kept_here a c is ok k v at) in (
        record { kind = ap is_map_type here.0; computed = computed a c is ok k v at },
        record {
          dtype = here.0 ∙ ap (map_type keys.dtype values.dtype) (sym (ap is_nullable here.0));
          offset_count = here.1;
          size_count = here.2;
          value_count = here.3;
          within = here.4;
          each =
              λ i b valid. value_here a c is ok k v at i b valid ∙ ap (λ (l : Kept). kept_at l i) q;
        },
      )

-- a constant column's view is its scalar in each row
pub constant_rows : (s : ScalarView) (n : ℕ)
    → rows_of n (constant_of s) ≡ map (λ i. s.value) (range_with_len 0 n)
constant_rows s n = λ j. map (λ i. row_constant s i j) (range_with_len 0 n)

pub constant_view : (s : ScalarView) (t : LogicalType) (n : ℕ) → t ≡ s.dtype
    → record {
      dtype = t;
      rows = rows_of n (constant_of s);
      constant = Some s;
      form = constant_form s.dtype s.value;
    }
    ≡ constant_column s n
constant_view s t n e =
    λ j.
    record {
      dtype = e j;
      rows = constant_rows s n j;
      constant = Some s;
      form = constant_form s.dtype s.value;
    }

pub opened_constant : (a : Inside) (c : ColumnView) (s : ScalarView) → column_view a ≡ c
    → IsColumn a → stored_of a.storage ≡ constant_of s → c ≡ constant_column s (length c.rows)
opened_constant a c s is ok at =
    let here = subst (λ (t : Stored). IsStored a.len (type_of a.dtype) t) at ok in
    sym is
    ∙ (λ j.
    record {
      dtype = here.0 j;
      rows = (ap (rows_of a.len) at ∙ constant_rows s a.len) j;
      constant = constant_in (at j);
      form = (stored_validity (at j)).form;
    })
    ∙ ap (constant_column s) (opened_len a c is)
