-- The rows of a column that a caller lends.
use Rattle.std.specs.Borrow.{Bor}
use Rattle.std.proofs.Common.{◌≡◌, ℕ, zero, suc, ◌+◌, ◌<◌, Bool, true, false, cond, List, [], ◌∷◌}
use Rattle.std.proofs.Common.{length, Option, Some, get_or, map, take, drop, ◌-◌, ◌≤◌}
use Rattle.std.proofs.Common.{None, refl, sym, ap, subst, ◌∙◌, arith, ◌⊎◌, inl, inr}
use Rattle.std.proofs.Common.{add-one}
use Rattle.std.specs.Prelude.{ℤ, pos, not, slice_index_or, ◌||◌, All}
use Rattle.std.proofs.lemmas.List.FromFn.{get_or-map-range_with_len, length-map-range_with_len}
use Rattle.vortex_types.specs.declared.dtype.PType.{PType}
use Rattle.vortex_types.specs.declared.dtype.PType.TheVariants.{I8, I16, I32, I64, U8, U16, U32, U64}
use Rattle.vortex_types.specs.Typing.{FitsPType, HasType}
use Rattle.vortex_bits.specs.Bits.{bit_of}
use Rattle.std.proofs.lemmas.Int.{ints}
use Rattle.std.proofs.lemmas.List.{length-map, length-take, length-drop, get_or_default}
use Rattle.vortex_functions.proofs.TreeCalls.{all_more}
use Rattle.vortex_kernels.proofs.LaneWords.{row_of_part}
use Rattle.vortex_types.specs.LogicalTypes.{LogicalType, is_nullable, integer_type, bool_type}
use Rattle.vortex_types.specs.LogicalTypes.{null_type}
use Rattle.vortex_types.specs.Values.{Value, null, truth, number, is_null}
use Rattle.vortex_types.specs.ScalarView.{ScalarView}
use Rattle.vortex_columns.specs.ColumnView.{ColumnView, row, AreInts, AreTyped, IsUnlessNull}
use Rattle.vortex_columns.specs.ColumnView.{constant_column, null_column}
use Rattle.vortex_columns.specs.ValidityView.{ValidityView, is_valid_row, form_allows_null, FitsRows}
use Rattle.vortex_columns.specs.ValidRows.{IsJointValidity, either_nullable}
use Rattle.vortex_arrow.specs.declared.column.ArrowColumn.{ArrowColumn}
use Rattle.vortex_arrow.specs.Layouts.{Layout, bits, numbers, offsets, views, layout_of, value_at}
use Rattle.vortex_arrow.specs.Layouts.{layout_type}
use Rattle.vortex_arrow.specs.Columns.{arrow_column, arrow_validity, validity_from}
use Rattle.yurkije_columns.specs.Batches.{type_borrowed}
use Rattle.vortex_kernels.specs.Between.{HasNoNull}
use Rattle.yurkije_lent.specs.Operands.{HasNullsOf, IsAllValid}

abbrev said : Layout → ValidityView → ℕ → ℕ → Value
said l v from i = cond (is_valid_row v i) (value_at l (from + i)) null

pub lent_count : (c : ArrowColumn) → length (arrow_column c).rows ≡ c.length
lent_count c = length-map-range_with_len (said (layout_of c.values) (arrow_validity c) c.offset) 0 c.length

pub lent_row : (c : ArrowColumn) (i : ℕ) → i < c.length
    → row (arrow_column c).rows i ≡ said (layout_of c.values) (arrow_validity c) c.offset i
lent_row c i lt =
    get_or-map-range_with_len (said (layout_of c.values) (arrow_validity c) c.offset) 0 c.length i i
    null lt (omega arith)

form_nullable : (b : Bool) (v : Option (Bor (List ℕ))) (o n : ℕ)
    → form_allows_null (validity_from b v o n).form ≡ b
form_nullable false v o n = refl
form_nullable true None o n = refl
form_nullable true (Some b) o n = refl

type_nullable : (l : Layout) (b : Bool) → is_nullable (layout_type l b) ≡ b
type_nullable (bits bs) b = refl
type_nullable (numbers p xs) b = refl
type_nullable (offsets true os bs) b = refl
type_nullable (offsets false os bs) b = refl
type_nullable (views true vs bs) b = refl
type_nullable (views false vs bs) b = refl

-- its type
pub lent_type : (c : ArrowColumn) → (arrow_column c).dtype ≡ type_borrowed c
lent_type c =
    ap (layout_type (layout_of c.values)) (form_nullable c.nullable c.validity c.offset c.length)

pub lent_nullable : (c : ArrowColumn) → is_nullable (arrow_column c).dtype ≡ c.nullable
lent_nullable c = ap is_nullable (lent_type c) ∙ type_nullable (layout_of c.values) c.nullable

unless_null : (b : Bool) (v w : Value) → v ≡ w → IsUnlessNull (cond b v null) w
unless_null true v w e = λ valid. e
unless_null false v w e = λ valid. cc

-- the integers of its rows
pub lent_numbers : (c : ArrowColumn) (p : PType) (zs ns : List ℤ) → layout_of c.values ≡ numbers p zs
    → length ns ≡ c.length
    → ((i : ℕ) → i < c.length
    → slice_index_or ns i (pos 0) ≡ slice_index_or zs (c.offset + i) (pos 0))
    → AreInts (arrow_column c) ns
lent_numbers c p zs ns is count same = record {
  count = count ∙ sym (lent_count c);
  each = λ i lt.
      let below : i < c.length = omega (arith, lt, count) in
      subst (λ (v : Value). IsUnlessNull v (number (slice_index_or ns i (pos 0))))
      (sym (lent_row c i below))
      (unless_null (is_valid_row (arrow_validity c) i) (value_at (layout_of c.values) (c.offset + i))
      (number (slice_index_or ns i (pos 0)))
      (ap (λ (l : Layout). value_at l (c.offset + i)) is ∙ ap number (sym (same i below))));
}

value_there : (l : Layout) (p : ℕ) → is_null (value_at l p) ≡ false
value_there (bits bs) p = refl
value_there (numbers t xs) p = refl
value_there (offsets true os bs) p = refl
value_there (offsets false os bs) p = refl
value_there (views true vs bs) p = refl
value_there (views false vs bs) p = refl

null_where : (b : Bool) (v : Value) → is_null v ≡ false → is_null (cond b v null) ≡ not b
null_where true v e = e
null_where false v e = refl

lent_null : (c : ArrowColumn) (i : ℕ) → i < c.length
    → is_null (row (arrow_column c).rows i) ≡ not (is_valid_row (arrow_validity c) i)
lent_null c i lt =
    ap is_null (lent_row c i lt)
    ∙ null_where (is_valid_row (arrow_validity c) i) (value_at (layout_of c.values) (c.offset + i))
    (value_there (layout_of c.values) (c.offset + i))

-- other values with the same validity
pub same_nulls : (c d : ArrowColumn) → arrow_validity d ≡ arrow_validity c → d.length ≡ c.length
    → d.nullable ≡ c.nullable → HasNullsOf (arrow_column c) (arrow_column d)
same_nulls c d same lengths nullable = record {
  nullable = lent_nullable d ∙ nullable ∙ sym (lent_nullable c);
  count = lent_count d ∙ lengths ∙ sym (lent_count c);
  each = λ i lt.
      let below : i < c.length = omega (arith, lt, lent_count c) in
      lent_null d i (omega (arith, below, lengths))
      ∙ ap (λ (v : ValidityView). not (is_valid_row v i)) same
      ∙ sym (lent_null c i below);
}

every_valid : (b : Bool) (o n i : ℕ) → is_valid_row (validity_from b None o n) i ≡ true
every_valid false o n i = refl
every_valid true o n i = refl

-- where there is no validity, one value in each row
pub constant_nulls : (c : ArrowColumn) (s : ScalarView) → c.validity ≡ None
    → is_nullable s.dtype ≡ c.nullable → is_null s.value ≡ false
    → HasNullsOf (arrow_column c) (constant_column s c.length)
constant_nulls c s none nullable there = record {
  nullable = nullable ∙ sym (lent_nullable c);
  count = length-map-range_with_len (λ k. s.value) 0 c.length ∙ sym (lent_count c);
  each = λ i lt.
      let below : i < c.length = omega (arith, lt, lent_count c) in
      ap is_null
      (get_or-map-range_with_len (λ k. s.value) 0 c.length i i null below (omega arith))
      ∙ there
      ∙ sym (lent_null c i below
      ∙ ap (λ (v : Option (Bor (List ℕ))).
      not (is_valid_row (validity_from c.nullable v c.offset c.length) i)) none
      ∙ ap not (every_valid c.nullable c.offset c.length i));
}

-- the joint validity of columns that are null where two others are
pub joint_nulls : (l r c d : ColumnView) (v : ValidityView) → HasNullsOf l c → HasNullsOf r d
    → length l.rows ≡ length r.rows
    → IsJointValidity (either_nullable c d) c d v → IsJointValidity (either_nullable l r) l r v
joint_nulls l r c d v left right same h = record {
  nullability = h.nullability ∙ (λ j. left.nullable j || right.nullable j);
  fits = subst (λ (n : ℕ). FitsRows v n) left.count h.fits;
  each = λ i lt.
      h.each i (omega (arith, lt, left.count))
      ∙ (λ j. not (left.each i lt j || right.each i (omega (arith, lt, same)) j));
}

valid_where : (b : Bool) (v : Option (Bor (List ℕ))) (o n i : ℕ)
    → (b ≡ false) ⊎ (v ≡ None) → is_valid_row (validity_from b v o n) i ≡ true
valid_where false v o n i h = refl
valid_where true v o n i (inl h) = cc
valid_where true v o n i (inr h) =
    ap (λ (w : Option (Bor (List ℕ))). is_valid_row (validity_from true w o n) i) h

-- no row is null where the type has none or there is no validity
pub lent_full : (c : ArrowColumn) → (c.nullable ≡ false) ⊎ (c.validity ≡ None)
    → HasNoNull (arrow_column c).rows
lent_full c h i lt =
    let below : i < c.length = omega (arith, lt, lent_count c) in
    lent_null c i below ∙ ap not (valid_where c.nullable c.validity c.offset c.length i h)

-- the joint validity of columns without nulls
pub joint_full : (l r : ColumnView) (v : ValidityView) → HasNoNull l.rows → HasNoNull r.rows
    → length l.rows ≡ length r.rows → IsAllValid (either_nullable l r) v
    → IsJointValidity (either_nullable l r) l r v
joint_full l r v left right same h = record {
  nullability = h.0;
  fits = h.1 (length l.rows);
  each = λ i lt.
      h.2 i ∙ sym (λ j. not (left i lt j || right i (omega (arith, lt, same)) j));
}

zero_fits : (p : PType) → FitsPType p (pos 0)
zero_fits I8 = omega (arith, ints)
zero_fits I16 = omega (arith, ints)
zero_fits I32 = omega (arith, ints)
zero_fits I64 = omega (arith, ints)
zero_fits U8 = omega (arith, ints)
zero_fits U16 = omega (arith, ints)
zero_fits U32 = omega (arith, ints)
zero_fits U64 = omega (arith, ints)

fits_at : (p : PType) (zs : List ℤ) (k : ℕ) → All (FitsPType p) zs
    → FitsPType p (slice_index_or zs k (pos 0))
fits_at p [] k h = zero_fits p
fits_at p (z ∷ zs) zero h = h 0 z (omega arith)
fits_at p (z ∷ zs) (suc k) h = fits_at p zs k (λ i d lt. h (suc i) d (omega (arith, lt)))

valid_or_nullable : (b : Bool) (v : Option (Bor (List ℕ))) (o n i : ℕ)
    → is_valid_row (validity_from b v o n) i ≡ false → b ≡ true
valid_or_nullable true v o n i h = refl
valid_or_nullable false v o n i h = cc

typed_number : (p : PType) (b valid : Bool) (z : ℤ) → (valid ≡ false → b ≡ true) → FitsPType p z
    → HasType (integer_type p b) (cond valid (number z) null)
typed_number p b true z h fits = fits
typed_number p b false z h fits = h refl

typed_truth : (b valid x : Bool) → (valid ≡ false → b ≡ true)
    → HasType (bool_type b) (cond valid (truth x) null)
typed_truth b true x h = tt
typed_truth b false x h = h refl

module _ (c : ArrowColumn) where
  typed_rows : ((i : ℕ) → i < c.length
      → HasType (type_borrowed c) (said (layout_of c.values) (arrow_validity c) c.offset i))
      → AreTyped (arrow_column c).dtype (arrow_column c).rows
  typed_rows h k d lt =
      let below : k < c.length = omega (arith, lt, lent_count c) in
      subst (λ (t : LogicalType). HasType t (get_or (arrow_column c).rows k d)) (sym (lent_type c))
      (subst (HasType (type_borrowed c))
      (sym (get_or-map-range_with_len (said (layout_of c.values) (arrow_validity c) c.offset) 0
      c.length k k d below (omega arith)))
      (h k below))

  -- the rows have the type of the column, where its integers do
  pub lent_typed : (p : PType) (zs : List ℤ) → layout_of c.values ≡ numbers p zs
      → All (FitsPType p) zs → AreTyped (arrow_column c).dtype (arrow_column c).rows
  lent_typed p zs is fits = typed_rows (λ i lt.
      subst (λ (l : Layout). HasType (layout_type l c.nullable)
      (said l (arrow_validity c) c.offset i)) (sym is)
      (typed_number p c.nullable (is_valid_row (arrow_validity c) i)
      (slice_index_or zs (c.offset + i) (pos 0))
      (valid_or_nullable c.nullable c.validity c.offset c.length i)
      (fits_at p zs (c.offset + i) fits)))

  pub lent_truths : (bs : List ℕ) → layout_of c.values ≡ bits bs
      → AreTyped (arrow_column c).dtype (arrow_column c).rows
  lent_truths bs is = typed_rows (λ i lt.
      subst (λ (l : Layout). HasType (layout_type l c.nullable)
      (said l (arrow_validity c) c.offset i)) (sym is)
      (typed_truth c.nullable (is_valid_row (arrow_validity c) i) (bit_of bs (c.offset + i))
      (valid_or_nullable c.nullable c.validity c.offset c.length i)))

-- some of the integers, from one on
pub part_count : {A : Type 0} (f : A → ℤ) (xs : List A) (from n end : ℕ) → end ≡ from + n
    → end ≤ length xs → length (map f (take (end - from) (drop from xs))) ≡ n
part_count f xs from n end is within =
    length-map (take (end - from) (drop from xs)) f
    ∙ omega (arith, length-take (end - from) (drop from xs), length-drop from xs, is, within)

pub part_at : {A : Type 0} (f : A → ℤ) (xs : List A) (from n end i : ℕ) → end ≡ from + n → i < n
    → slice_index_or (map f (take (end - from) (drop from xs))) i (pos 0)
    ≡ slice_index_or (map f xs) (from + i) (pos 0)
part_at f xs from n end i is lt =
    subst (λ (e : ℕ). slice_index_or (map f (take (e - from) (drop from xs))) i (pos 0)
    ≡ slice_index_or (map f xs) (from + i) (pos 0)) (sym is) (row_of_part f xs from n i lt)

-- nulls in the place of a column that is not read
pub nulls_typed : (n : ℕ) → AreTyped (null_column n).dtype (null_column n).rows
nulls_typed n k d lt =
    let below : k < n = omega (arith, lt, length-map-range_with_len (λ i. null) 0 n) in
    subst (HasType null_type)
    (sym (get_or-map-range_with_len (λ i. null) 0 n k k d below (omega arith))) refl

pub mapped_all : {A B : Type 0} (P : B → Type 0) (f : A → B) (xs : List A)
    → All (λ x. P (f x)) xs → All P (map f xs)
mapped_all P f [] h k d lt = absurd (omega (arith, lt))
mapped_all P f (x ∷ xs) h zero d lt = h 0 x (omega arith)
mapped_all P f (x ∷ xs) h (suc k) d lt =
    mapped_all P f xs (λ i e below. h (suc i) e (omega (arith, below))) k d (omega (arith, lt))

-- one more element with P
pub all_next : {A : Type 0} (P : A → Type 0) (xs : List A) (k : ℕ) (d : A) → k < length xs
    → All P (take k xs) → P (get_or xs k d) → All P (take (k + 1) xs)
all_next P xs k d lt h r =
    subst (λ (j : ℕ). All P (take j xs)) (sym (add-one k))
    (all_more P xs k (get_or xs k d) h lt (get_or_default xs k d (get_or xs k d) lt) r)
