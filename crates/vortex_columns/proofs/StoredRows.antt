-- The rows of a column's storage, one by one, and those of an opened column.
use Rattle.std.proofs.Common.{◌≡◌, ℕ, ◌+◌, ◌*◌, ◌<◌, ◌≤◌, suc, take, drop, pos, Bool, true, false}
use Rattle.std.proofs.Common.{not, IsTrue, List, [], ◌∷◌, map, length, refl, sym, ap, ◌∙◌, subst}
use Rattle.std.proofs.Common.{arith, cond}
use Rattle.std.specs.Prelude.{slice_index, slice_index_or, All, Option, IfSome, Result}
use Rattle.std.proofs.lemmas.List.{get_or_default, same_lists, get_or-map, length-map}
use Rattle.std.proofs.lemmas.List.FromFn.{get_or-map-range_with_len, length-map-range_with_len}
use Rattle.vortex_types.specs.LogicalTypes.{LogicalType, Fields, no_fields, field, is_nullable}
use Rattle.vortex_types.specs.Values.{Value, null, truth, number, text, bytes, list, values_of}
use Rattle.vortex_types.specs.Values.{is_null}
use Rattle.vortex_types.specs.Typing.{HasType, HaveFields, IsList, IsPair}
use Rattle.vortex_types.specs.TypeOf.{type_of}
use Rattle.vortex_columns.specs.ColumnView.{ColumnView, row, AreTyped, valid_rows, constant_form}
use Rattle.vortex_columns.specs.ColumnView.{entries, FormTells, TypeInvariant}
use Rattle.vortex_columns.specs.ValidityView.{ValidityForm, non_nullable, all_valid, all_invalid}
use Rattle.vortex_columns.specs.ValidityView.{array, ValidityView, is_valid_by, is_valid_row}
use Rattle.vortex_columns.specs.ValidityView.{form_allows_null, FitsRowsBy, FitsRows, ReachesBy}
use Rattle.vortex_columns.specs.Stored.{Kept, bools, integers, texts, byte_strings, structs, lists}
use Rattle.vortex_columns.specs.Stored.{fixed_size_lists, maps, AreFields, Stored, nulls}
use Rattle.vortex_columns.specs.Stored.{constant_of, kept, stored_of, stored_validity, kept_at}
use Rattle.vortex_columns.specs.Stored.{constant_in}
use Rattle.vortex_columns.specs.Stored.{value_at, row_at, rows_of, AreKept, IsStored, column_view}
use Rattle.vortex_columns.specs.Stored.{IsColumn, HasPlace, HasRow, IsTextAt}
use Rattle.vortex_columns.specs.declared.column.Column.TheInside.{Inside}
use Rattle.vortex_types.specs.declared.dtype.DType.{DType}
use Rattle.vortex_types.specs.declared.scalar_value.ScalarValue.{ScalarValue}
use Rattle.vortex_errors.specs.declared.error.VortexError.{VortexError}
use Rattle.vortex_errors.specs.declared.error.VortexError.TheVariants.{InvalidColumn}
use Rattle.vortex_types.specs.ValueOf.{value_or_null}
use Rattle.vortex_types.specs.ScalarView.{ScalarView}
use Rattle.vortex_errors.specs.Answers.{MadeWhere, AnswersUnlessMemory}
use Rattle.std.proofs.Math.Nat.{mul-suc, mul-le-mul_left}
use Rattle.std.proofs.lemmas.List.Elements.{All-nil, All-cons}
use Rattle.vortex_columns.proofs.HaveTypes.{value_count_of}
use Rattle.vortex_columns.proofs.ListParts.{length_part, part_each, length_entries, entries_typed}
use Rattle.vortex_errors.proofs.Answering.{made_where}
use Rattle.vortex_types.proofs.NullValues.{null_is}

pub length_rows : (n : ℕ) (s : Stored) → length (rows_of n s) ≡ n
length_rows n s = length-map-range_with_len (row_at s) 0 n

pub row_is : (n : ℕ) (s : Stored) (i : ℕ) (d : Value) → i < n
    → slice_index_or (rows_of n s) i d ≡ row_at s i
row_is n s i d h = get_or-map-range_with_len (row_at s) 0 n i i d h (omega arith)

reaches : (f : ValidityForm) (bits : List Bool) (n i : ℕ) → i < n → FitsRowsBy f bits n
    → ReachesBy f bits i
reaches non_nullable bits n i h b = tt
reaches all_valid bits n i h b = tt
reaches all_invalid bits n i h b = tt
reaches array bits n i h b = omega arith

fields_reach : (n i : ℕ) (fs : Fields) (cs : List ColumnView) → i < n → AreFields n fs cs
    → All (λ c. i < length c.rows) cs
fields_reach n i no_fields [] h a = All-nil (λ c. i < length c.rows)
fields_reach n i (field name t fs) (c ∷ cs) h a =
    All-cons (λ c. i < length c.rows) c cs (omega (arith, a.1)) (fields_reach n i fs cs h a.3)
fields_reach n i no_fields (c ∷ cs) h a = absurd a
fields_reach n i (field name t fs) [] h a = absurd a

pub one_more_fits : (s i n : ℕ) → i < n → s * i + s ≤ s * n
one_more_fits s i n h =
    let up : suc i ≤ n = omega arith in
    omega (arith, mul-suc s i, mul-le-mul_left s up)

has_place : (n : ℕ) (t : LogicalType) (m : Bool) (k : Kept) (i : ℕ) → i < n → AreKept n t m k
    → HasPlace i k
has_place n t m (bools bits) i h a = omega (arith, a.1)
has_place n t m (integers p ns) i h a = omega (arith, a.1)
has_place n t m (texts ts) i h a = omega (arith, a.1)
has_place n t m (byte_strings bs) i h a = omega (arith, a.1)
has_place n t m (structs cs) i h a = fields_reach n i a.0 cs h a.2
has_place n t m (lists e offsets sizes) i h a =
    (omega (arith, a.1), omega (arith, a.2), a.3 i (omega (arith, a.1)))
has_place n t m (fixed_size_lists e size) i h a = omega (arith, a.1, one_more_fits size i n h)
has_place n t m (maps k v offsets sizes) i h a =
    (omega (arith, a.1), omega (arith, a.2), a.4 i (omega (arith, a.1)), a.3)

pub has_row : (n : ℕ) (t : LogicalType) (s : Stored) (i : ℕ) → i < n → IsStored n t s → HasRow i s
has_row n t nulls i h a = tt
has_row n t (constant_of s) i h a = tt
has_row n t (kept k v) i h a =
    (has_place n t (form_allows_null v.form) k i h a.0, reaches v.form v.bits n i h a.1, a.2 i h)

plain_form : (b : Bool) (n : ℕ) → FitsRowsBy (cond b all_valid non_nullable) [] n
plain_form true n = tt
plain_form false n = tt

constant_fits : (t : LogicalType) (v : Value) (n : ℕ) → FitsRowsBy (constant_form t v) [] n
constant_fits t null n = tt
constant_fits t (truth b) n = plain_form (is_nullable t) n
constant_fits t (number z) n = plain_form (is_nullable t) n
constant_fits t (text bs) n = plain_form (is_nullable t) n
constant_fits t (bytes bs) n = plain_form (is_nullable t) n
constant_fits t (list vs) n = plain_form (is_nullable t) n

pub fits_rows : (n : ℕ) (t : LogicalType) (s : Stored) → IsStored n t s
    → FitsRows (stored_validity s) n
fits_rows n t nulls a = tt
fits_rows n t (constant_of s) a = constant_fits s.dtype s.value n
fits_rows n t (kept k v) a = a.1

plain_valid : (b : Bool) (i : ℕ) → is_valid_by (cond b all_valid non_nullable) [] i ≡ true
plain_valid true i = refl
plain_valid false i = refl

-- a constant is valid where it is not null
pub constant_valid : (t : LogicalType) (v : Value) (i : ℕ)
    → is_valid_by (constant_form t v) [] i ≡ not (is_null v)
constant_valid t null i = refl
constant_valid t (truth b) i = plain_valid (is_nullable t) i
constant_valid t (number z) i = plain_valid (is_nullable t) i
constant_valid t (text bs) i = plain_valid (is_nullable t) i
constant_valid t (bytes bs) i = plain_valid (is_nullable t) i
constant_valid t (list vs) i = plain_valid (is_nullable t) i

-- a value that is not null is in each valid row
kept_value : (k : Kept) (i : ℕ) → is_null (kept_at k i) ≡ false
kept_value (bools bits) i = refl
kept_value (integers p ns) i = refl
kept_value (texts ts) i = refl
kept_value (byte_strings bs) i = refl
kept_value (structs cs) i = refl
kept_value (lists e offsets sizes) i = refl
kept_value (fixed_size_lists e size) i = refl
kept_value (maps k v offsets sizes) i = refl

not_true : (b : Bool) → not b ≡ true → b ≡ false
not_true true h = cc
not_true false h = refl

valid_value : (s : Stored) (i : ℕ) → is_valid_row (stored_validity s) i ≡ true
    → is_null (value_at s i) ≡ false
valid_value nulls i h = cc
valid_value (constant_of s) i h =
    not_true (is_null s.value) (sym (constant_valid s.dtype s.value i) ∙ h)
valid_value (kept k v) i h = kept_value k i

by_validity : (b : Bool) (s : Stored) (i : ℕ) → is_valid_row (stored_validity s) i ≡ b
    → b ≡ not (is_null (cond b (value_at s i) null))
by_validity true s i h = ap not (sym (valid_value s i h))
by_validity false s i h = refl

pub valid_is : (s : Stored) (i : ℕ)
    → is_valid_row (stored_validity s) i ≡ not (is_null (row_at s i))
valid_is s i = by_validity (is_valid_row (stored_validity s) i) s i refl

pub row_valid : (s : Stored) (i : ℕ) → is_valid_row (stored_validity s) i ≡ true
    → row_at s i ≡ value_at s i
row_valid s i h = ap (λ b. cond b (value_at s i) null) h

pub row_null : (s : Stored) (i : ℕ) → is_valid_row (stored_validity s) i ≡ false → row_at s i ≡ null
row_null s i h = ap (λ b. cond b (value_at s i) null) h

-- a row that is not null is the stored value
pub row_value : (s : Stored) (i : ℕ) → is_null (row_at s i) ≡ false → row_at s i ≡ value_at s i
row_value s i h = row_valid s i (valid_is s i ∙ ap not h)

null_where_allowed : (f : ValidityForm) (bits : List Bool) (i : ℕ) → is_valid_by f bits i ≡ false
    → IsTrue (form_allows_null f)
null_where_allowed non_nullable bits i h = cc
null_where_allowed all_valid bits i h = refl
null_where_allowed all_invalid bits i h = refl
null_where_allowed array bits i h = refl

typed_by : (t : LogicalType) (b : Bool) (x : Value) → (b ≡ true → HasType t x)
    → (b ≡ false → HasType t null) → HasType t (cond b x null)
typed_by t true x h g = h refl
typed_by t false x h g = g refl

-- a record of columns that have the fields' types
record_typed : (n i : ℕ) (fs : Fields) (cs : List ColumnView) → i < n → AreFields n fs cs
    → HaveFields fs (values_of (map (λ c. row c.rows i) cs))
record_typed n i no_fields [] h a = tt
record_typed n i (field name t fs) (c ∷ cs) h a = (
  subst (λ (u : LogicalType). HasType u (row c.rows i)) a.0 (a.2 i null (omega (arith, a.1))),
  record_typed n i fs cs h a.3,
)
record_typed n i no_fields (c ∷ cs) h a = absurd a
record_typed n i (field name t fs) [] h a = absurd a

-- a value of a row has the type; it is a text if it is UTF-8
typed_kept : (n : ℕ) (t : LogicalType) (m : Bool) (k : Kept) (i : ℕ) → i < n → AreKept n t m k
    → IsTextAt i k → HasType t (kept_at k i)
typed_kept n t m (bools bits) i h a x =
    subst (λ (u : LogicalType). HasType u (kept_at (bools bits) i)) (sym a.0) tt
typed_kept n t m (integers p ns) i h a x =
    subst (λ (u : LogicalType). HasType u (kept_at (integers p ns) i)) (sym a.0)
    (a.2 i (pos 0) (omega (arith, a.1)))
typed_kept n t m (texts ts) i h a x =
    subst (λ (u : LogicalType). HasType u (kept_at (texts ts) i)) (sym a.0) x
typed_kept n t m (byte_strings bs) i h a x =
    subst (λ (u : LogicalType). HasType u (kept_at (byte_strings bs) i)) (sym a.0)
    (a.2 i [] (omega (arith, a.1)))
typed_kept n t m (structs cs) i h a x =
    subst (λ (u : LogicalType). HasType u (kept_at (structs cs) i)) (sym a.1)
    (record_typed n i a.0 cs h a.2)
typed_kept n t m (lists e offsets sizes) i h a x =
    let within = a.3 i (omega (arith, a.1)) in
    subst (λ (u : LogicalType). HasType u (kept_at (lists e offsets sizes) i)) (sym a.0)
    (part_each (HasType e.dtype) e.rows _ _ within a.4)
typed_kept n t m (fixed_size_lists e size) i h a x =
    let within : size * i + size ≤ length e.rows = omega (arith, a.1, one_more_fits size i n h) in
    subst (λ (u : LogicalType). HasType u (kept_at (fixed_size_lists e size) i)) (sym a.0) (
      value_count_of (take size (drop (size * i) e.rows))
          ∙ length_part e.rows (size * i) size within,
      part_each (HasType e.dtype) e.rows (size * i) size within a.2,
    )
typed_kept n t m (maps k v offsets sizes) i h a x =
    let within : slice_index offsets i + slice_index sizes i ≤ length (entries k.rows v.rows) =
    omega (arith, a.4 i (omega (arith, a.1)), length_entries k.rows v.rows a.3) in
    subst (λ (u : LogicalType). HasType u (kept_at (maps k v offsets sizes) i)) (sym a.0)
    (part_each (IsList (IsPair (HasType k.dtype) (HasType v.dtype))) (entries k.rows v.rows) _ _
    within (entries_typed (HasType k.dtype) (HasType v.dtype) k.rows v.rows a.3 a.5 a.6))

-- and null too if the type has it
typed_null : (n : ℕ) (t : LogicalType) (m : Bool) (k : Kept) → AreKept n t m k → IsTrue m
    → HasType t null
typed_null n t m (bools bits) a e = subst (λ (u : LogicalType). HasType u null) (sym a.0) e
typed_null n t m (integers p ns) a e = subst (λ (u : LogicalType). HasType u null) (sym a.0) e
typed_null n t m (texts ts) a e = subst (λ (u : LogicalType). HasType u null) (sym a.0) e
typed_null n t m (byte_strings bs) a e = subst (λ (u : LogicalType). HasType u null) (sym a.0) e
typed_null n t m (structs cs) a e = subst (λ (u : LogicalType). HasType u null) (sym a.1) e
typed_null n t m (lists f offsets sizes) a e = subst (λ (u : LogicalType). HasType u null) (sym a.0)
    e
typed_null n t m (fixed_size_lists f size) a e = subst (λ (u : LogicalType). HasType u null)
    (sym a.0) e
typed_null n t m (maps k v offsets sizes) a e = subst (λ (u : LogicalType). HasType u null)
    (sym a.0) e

pub row_constant : (s : ScalarView) (i : ℕ) → row_at (constant_of s) i ≡ s.value
row_constant s i = by (is_null s.value) refl
  where
    by : (b : Bool) → is_null s.value ≡ b → row_at (constant_of s) i ≡ s.value
    by true h =
        row_null (constant_of s) i (constant_valid s.dtype s.value i ∙ ap not h)
        ∙ sym (null_is s.value h)
    by false h = row_valid (constant_of s) i (constant_valid s.dtype s.value i ∙ ap not h)

typed_row : (n : ℕ) (t : LogicalType) (s : Stored) (i : ℕ) → i < n → IsStored n t s
    → HasType t (row_at s i)
typed_row n t nulls i h a = subst (λ (u : LogicalType). HasType u null) (sym a) refl
typed_row n t (constant_of s) i h a =
    subst (λ (u : LogicalType). HasType u (row_at (constant_of s) i)) (sym a.0)
    (subst (λ (v : Value). HasType s.dtype v) (sym (row_constant s i)) a.1)
typed_row n t (kept k v) i h a =
    typed_by t (is_valid_row v i) (kept_at k i)
    (λ e. typed_kept n t (form_allows_null v.form) k i h a.0 (a.2 i h e))
    (λ e. typed_null n t (form_allows_null v.form) k a.0 (null_where_allowed v.form v.bits i e))

pub typed_rows : (n : ℕ) (t : LogicalType) (s : Stored) → IsStored n t s → AreTyped t (rows_of n s)
typed_rows n t s a i d h =
    let here : i < n = omega (arith, length_rows n s) in
    subst (λ (v : Value). HasType t v) (sym (row_is n s i d here)) (typed_row n t s i here a)

valid_not_null : (b : Bool) → true ≡ not b → b ≡ false
valid_not_null true h = cc
valid_not_null false h = refl

invalid_null : (b : Bool) → false ≡ not b → b ≡ true
invalid_null true h = refl
invalid_null false h = cc

-- whether a row is valid, by the form
valid_told : (f : ValidityForm) (bits : List Bool) (i : ℕ) (v : Value)
    → is_valid_by f bits i ≡ not (is_null v) → FormTells f v
valid_told non_nullable bits i v h = valid_not_null (is_null v) h
valid_told all_valid bits i v h = valid_not_null (is_null v) h
valid_told all_invalid bits i v h = invalid_null (is_null v) h
valid_told array bits i v h = tt

-- the scalar of a constant has its type
constant_typed : (n : ℕ) (t : LogicalType) (s : Stored) → IsStored n t s
    → IfSome (constant_in s) (λ s. HasType s.dtype s.value)
constant_typed n t nulls ok = tt
constant_typed n t (constant_of s) ok = ok.1
constant_typed n t (kept k v) ok = tt

-- the same for an opened column
module _ (a : Inside) (c : ColumnView) (is : column_view a ≡ c) where
  pub opened_len : a.len ≡ length c.rows
  opened_len =
      sym (length_rows a.len (stored_of a.storage)) ∙ ap (λ (d : ColumnView). length d.rows) is

  pub opened_row : (i : ℕ) → i < length c.rows → row c.rows i ≡ row_at (stored_of a.storage) i
  opened_row i h =
      sym (ap (λ (d : ColumnView). row d.rows i) is)
      ∙ row_is a.len (stored_of a.storage) i null (omega (arith, opened_len))

  pub opened_has_row : (i : ℕ) → IsColumn a → i < length c.rows → HasRow i (stored_of a.storage)
  opened_has_row i ok h =
      has_row a.len (type_of a.dtype) (stored_of a.storage) i (omega (arith, opened_len)) ok

  pub opened_validity : (i : ℕ) → i < length c.rows
      → is_valid_row (stored_validity (stored_of a.storage)) i ≡ not (is_null (row c.rows i))
  opened_validity i h =
      valid_is (stored_of a.storage) i ∙ ap (λ v. not (is_null v)) (sym (opened_row i h))

  form_is : (stored_validity (stored_of a.storage)).form ≡ c.form
  form_is = ap (λ (d : ColumnView). d.form) is

  pub opened_told : IsColumn a → TypeInvariant c
  opened_told ok = (
    λ i h.
        let v = stored_validity (stored_of a.storage) in
        subst (λ (f : ValidityForm). FormTells f (row c.rows i)) form_is
        (valid_told v.form v.bits i (row c.rows i) (opened_validity i h)),
    subst (λ (d : ColumnView). IfSome d.constant (λ s. HasType s.dtype s.value)) is
        (constant_typed a.len (type_of a.dtype) (stored_of a.storage) ok),
  )

  pub opened_fits : IsColumn a → FitsRows (stored_validity (stored_of a.storage)) (length c.rows)
  opened_fits ok =
      subst (λ (n : ℕ). FitsRows (stored_validity (stored_of a.storage)) n) opened_len
      (fits_rows a.len (type_of a.dtype) (stored_of a.storage) ok)

  pub opened_typed : IsColumn a → AreTyped c.dtype c.rows
  opened_typed ok =
      subst (λ (d : ColumnView). AreTyped d.dtype d.rows) is
      (typed_rows a.len (type_of a.dtype) (stored_of a.storage) ok)

  pub opened_stored : IsColumn a → IsStored (length c.rows) c.dtype (stored_of a.storage)
  opened_stored ok =
      let P : ℕ → Type 0 = λ n. IsStored n c.dtype (stored_of a.storage) in
      subst P opened_len
      (subst (λ (t : LogicalType). IsStored a.len t (stored_of a.storage))
      (ap (λ (d : ColumnView). d.dtype) is) ok)

  pub opened_value : (i : ℕ) → i < length c.rows → is_null (row c.rows i) ≡ false
      → row c.rows i ≡ value_at (stored_of a.storage) i
  opened_value i h valid =
      opened_row i h ∙ row_value (stored_of a.storage) i (ap is_null (sym (opened_row i h)) ∙ valid)

  -- the bits of an array are the rows that are not null
  array_bits : (n : ℕ) (f : ValidityForm) (bits : List Bool) → f ≡ array → FitsRowsBy f bits n
      → length bits ≡ n
  array_bits n non_nullable bits e h = cc
  array_bits n all_valid bits e h = cc
  array_bits n all_invalid bits e h = cc
  array_bits n array bits e h = h

  pub opened_valid_bits : (bits : List Bool)
      → stored_validity (stored_of a.storage) ≡ record { form = array; bits = bits } → IsColumn a
      → (c.form ≡ array) × (bits ≡ valid_rows c.rows)
  opened_valid_bits bits e ok =
      let fits =
      array_bits (length c.rows) array bits refl
      (subst (λ (v : ValidityView). FitsRows v (length c.rows)) e (opened_fits ok)) in (
        sym form_is ∙ ap (λ (v : ValidityView). v.form) e,
        same_lists bits (valid_rows c.rows) (fits ∙ sym (length-map c.rows (λ v. not (is_null v))))
            (λ k d h.
            let within : k < length c.rows = omega (arith, fits) in
            get_or_default bits k d false h ∙ sym (ap (λ (v : ValidityView). is_valid_row v k) e)
            ∙ opened_validity k within ∙ sym (get_or-map-default k d within)),
      )
    where
      get_or-map-default : (k : ℕ) (d : Bool) → k < length c.rows
          → slice_index_or (valid_rows c.rows) k d ≡ not (is_null (row c.rows k))
      get_or-map-default k d h = get_or-map (λ v. not (is_null v)) c.rows k null d h

  pub opened_valid_row : (i : ℕ) → i < length c.rows
      → is_valid_row (stored_validity (stored_of a.storage)) i ≡ true
      → row c.rows i ≡ value_at (stored_of a.storage) i
  opened_valid_row i h e = opened_row i h ∙ row_valid (stored_of a.storage) i e

  pub opened_null_row : (i : ℕ) → i < length c.rows
      → is_valid_row (stored_validity (stored_of a.storage)) i ≡ false → row c.rows i ≡ null
  opened_null_row i h e = opened_row i h ∙ row_null (stored_of a.storage) i e

  -- a scalar of a row has the column's type
  pub opened_scalar : (i : ℕ) (t : DType) (v : Option ScalarValue)
      (r : Result ScalarView VortexError)
      → IsColumn a → i < length c.rows → type_of t ≡ type_of a.dtype
      → value_or_null v ≡ row c.rows i
      → MadeWhere r (HasType (type_of t) (value_or_null v))
      (λ s. s ≡ record { dtype = type_of t; value = value_or_null v }) InvalidColumn
      → AnswersUnlessMemory r (λ s. s ≡ record { dtype = c.dtype; value = row c.rows i })
  opened_scalar i t v r ok h same value answered =
      let dtype : type_of t ≡ c.dtype = same ∙ ap (λ (d : ColumnView). d.dtype) is in
      let typed : HasType c.dtype (row c.rows i) = opened_typed ok i null h in
      made_where r (HasType (type_of t) (value_or_null v))
      (λ s. s ≡ record { dtype = type_of t; value = value_or_null v })
      (λ s. s ≡ record { dtype = c.dtype; value = row c.rows i }) InvalidColumn
      (subst (λ (u : LogicalType). HasType u (value_or_null v)) (sym dtype)
      (subst (λ (w : Value). HasType c.dtype w) (sym value) typed))
      (λ s e. e ∙ (λ j. record { dtype = dtype j; value = value j }))
      answered
