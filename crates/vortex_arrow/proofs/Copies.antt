-- That a copy is a column again.
use Rattle.std.specs.Borrow.{Bor}
use Rattle.std.proofs.Common.{◌≡◌, ℕ, ◌+◌, ◌<◌, ◌≤◌, ℤ, pos, Bool, true, false, cond, List, []}
use Rattle.std.proofs.Common.{◌∷◌, length, map, take, refl, sym, ap, ◌∙◌, subst, arith}
use Rattle.std.proofs.Common.{nat_le, length-append}
use Rattle.std.proofs.lemmas.Bool.{cond-true, cond-false, le-leb}
use Rattle.std.proofs.lemmas.List.{length-take, length-map, get_or-map}
use Rattle.std.proofs.lemmas.Int.{ints}
use Rattle.std.specs.Prelude.{All, IsUtf8, IsTrue, Some}
use Rattle.std.proofs.lemmas.List.FromFn.{get_or-map-range_with_len, fill_by_all}
use Rattle.vortex_types.specs.LogicalTypes.{LogicalType, null_type, bool_type, integer_type}
use Rattle.vortex_types.specs.LogicalTypes.{text_type, bytes_type, struct_type, list_type}
use Rattle.vortex_types.specs.LogicalTypes.{fixed_size_list_type, map_type, is_nullable}
use Rattle.vortex_types.specs.Values.{Value, null, text}
use Rattle.vortex_types.specs.Typing.{HasType}
use Rattle.vortex_bits.specs.Bits.{bit_of}
use Rattle.vortex_bits.proofs.Opened.{row_of_bits}
use Rattle.vortex_views.specs.Collected.{HaveRoom}
use Rattle.vortex_views.specs.Placing.{Placed, placed_from, placed_after, none_placed, most_bytes}
use Rattle.vortex_views.proofs.Placed.{behind_last, in_next}
use Rattle.vortex_columns.specs.ValidityView.{is_valid_row, form_allows_null}
use Rattle.vortex_columns.specs.ColumnView.{ColumnView, row}
use Rattle.vortex_arrow.specs.declared.column.ArrowValues.{ArrowValues}
use Rattle.vortex_arrow.specs.Values.{LieWithin, offset_at}
use Rattle.vortex_arrow.specs.Layouts.{Layout, bits, numbers, offsets, views, layout_type, layout_of}
use Rattle.vortex_arrow.specs.Layouts.{value_at, bytes_at, Lies, IsTextIfValid}
use Rattle.vortex_arrow.specs.Columns.{validity_from, column_from, HasRoom, values_from}
use Rattle.vortex_arrow.specs.Columns.{row_bytes}
use Rattle.vortex_arrow.specs.Written.{AreCopied, ArePacked, value_bytes, joined}
use Rattle.vortex_arrow.specs.Copies.{copy_of, IsCopy, IsReadBack, RowsHaveRoom}
use Rattle.vortex_arrow.proofs.Joined.{joined_longer, joined_room}
use Rattle.vortex_arrow.proofs.Rows.{map_range_same}

-- null has no type that is not nullable
never_null : (n : Bool) → n ≡ false → IsTrue n → ⊥
never_null n e h = cc

null_typed : (t : LogicalType) → is_nullable t ≡ false → HasType t null → ⊥
null_typed null_type e h = absurd (cc)
null_typed (bool_type n) e h = never_null n e h
null_typed (integer_type p n) e h = never_null n e h
null_typed (text_type n) e h = never_null n e h
null_typed (bytes_type n) e h = never_null n e h
null_typed (struct_type fs n) e h = never_null n e h
null_typed (list_type t n) e h = never_null n e h
null_typed (fixed_size_list_type t s n) e h = never_null n e h
null_typed (map_type k v n) e h = never_null n e h

-- a bit of a row that is null tells so
bit_by : (t : LogicalType) (v w : Value) (b : Bool) → is_nullable t ≡ false → HasType t v
    → v ≡ cond b w null → b ≡ true
bit_by t v w true e h is = refl
bit_by t v w false e h is = absurd (null_typed t e (subst (HasType t) is h))

-- places that ascend and do not pass the end
lie_by : (bs : List ℕ) (a b : ℕ) → a ≤ b → b ≤ length bs → LieWithin bs (pos a) (pos b)
lie_by bs a b h k = record {
  start = omega (arith, ints);
  order = omega (arith, ints, h);
  end = omega (arith, ints, k);
}

room_in : (rows : List Value) (bs : List ℕ) → take (length (joined rows)) bs ≡ joined rows
    → length (joined rows) ≤ length bs
room_in rows bs e =
    omega (arith, ap length e, length-take (length (joined rows)) bs)

-- the bytes of packed texts lie where the offsets say
packed_lie : (rows : List Value) (os : List ℤ) (bs : List ℕ) (i : ℕ) → ArePacked rows os bs
    → i < length rows → LieWithin bs (offset_at os i) (offset_at os (i + 1))
packed_lie rows os bs i packed h =
    let a = length (joined (take i rows)) in
    let b = length (joined (take (i + 1) rows)) in
    subst (λ (z : ℤ). LieWithin bs z (offset_at os (i + 1)))
    (sym (packed.places i (omega arith)))
    (subst (λ (z : ℤ). LieWithin bs (pos a) z) (sym (packed.places (i + 1) (omega arith)))
    (lie_by bs a b (omega (arith, joined_longer rows i h))
    (omega (arith, joined_longer rows i h, joined_room rows i h, room_in rows bs packed.bytes))))

text_by : (t : LogicalType) (n : Bool) (v : Value) (bs : List ℕ) → text_type n ≡ t → HasType t v
    → v ≡ text bs → IsUtf8 bs
text_by t n v bs e h is = subst (λ (u : LogicalType). HasType u (text bs)) (sym e)
    (subst (HasType t) is h)

module _ (t : LogicalType) (rows : List Value) (typed : All (HasType t) rows) (b : Bor (List ℕ))
    (l : Layout) (copied : AreCopied rows b.now l) where
  n : ℕ
  n = length rows

  pub row_at : (i : ℕ) → i < length rows → row rows i ≡ cond (bit_of b.now i) (value_at l i) null
  row_at i h =
      ap (λ (vs : List Value). row vs i) copied.said
      ∙ get_or-map-range_with_len (λ k. cond (bit_of b.now k) (value_at l k) null) 0 (length rows) i i
      null h (omega arith)

  pub bit_set : is_nullable t ≡ false → (i : ℕ) → i < length rows → bit_of b.now i ≡ true
  bit_set e i h =
      bit_by t (row rows i) (value_at l i) (bit_of b.now i) e (typed i null h) (row_at i h)

  -- the validity that is read is that of the bits
  pub valid_at : (m : Bool) → is_nullable t ≡ m → (i : ℕ) → i < length rows
      → is_valid_row (validity_from m (Some b) 0 (length rows)) i ≡ bit_of b.now i
  valid_at false e i h = sym (bit_set e i h)
  valid_at true e i h =
      let same : 0 + i ≡ i = omega arith in
      row_of_bits b.now 0 (length rows) i h ∙ ap (bit_of b.now) same

  pub rows_same : (m : Bool) → is_nullable t ≡ m
      → (column_from l (validity_from m (Some b) 0 (length rows)) 0 (length rows)).rows ≡ rows
  rows_same m e =
      map_range_same null
      (λ i. cond (is_valid_row (validity_from m (Some b) 0 (length rows)) i) (value_at l (0 + i))
      null)
      (λ i. cond (bit_of b.now i) (value_at l i) null) (length rows)
      (λ i h.
      let same : 0 + i ≡ i = omega arith in
      λ j. cond (valid_at m e i h j) (value_at l (same j)) null)
      ∙ sym copied.said

-- a text that is read is that of its row
text_if : (t : LogicalType) (rows : List Value) (typed : All (HasType t) rows) (b : Bor (List ℕ))
    (l : Layout) (copied : AreCopied rows b.now l) → layout_type l (is_nullable t) ≡ t
    → (i p : ℕ) → p ≡ i → i < length rows → (valid : Bool) → valid ≡ bit_of b.now i
    → IsTextIfValid l p valid
text_if t rows typed b (bits bs) copied e i p same h valid is = tt
text_if t rows typed b (numbers q xs) copied e i p same h valid is = tt
text_if t rows typed b (offsets false os bs) copied e i p same h valid is = tt
text_if t rows typed b (offsets true os bs) copied e i p same h valid is = λ set.
    let l = offsets true os bs in
    text_by t (is_nullable t) (row rows i) (bytes_at l p) e (typed i null h)
    (row_at t rows typed b l copied i h
    ∙ (λ j. cond ((sym is ∙ set) j) (value_at l (sym same j)) null))
text_if t rows typed b (views false vs bs) copied e i p same h valid is = tt
text_if t rows typed b (views true vs bs) copied e i p same h valid is = absurd copied.packed

lies_if : (rows : List Value) (b : List ℕ) (l : Layout) (copied : AreCopied rows b l) (i p : ℕ)
    → p ≡ i → i < length rows → (valid : Bool) → Lies l p valid
lies_if rows b (bits bs) copied i p same h valid = tt
lies_if rows b (numbers q xs) copied i p same h valid = tt
lies_if rows b (offsets t os bs) copied i p same h valid =
    subst (λ (k : ℕ). LieWithin bs (offset_at os k) (offset_at os (k + 1))) (sym same)
    (packed_lie rows os bs i copied.packed h)
lies_if rows b (views t vs bs) copied i p same h valid = absurd copied.packed

bytes_in : (bit t : Bool) (os : List ℤ) (bs : List ℕ) (i : ℕ)
    → value_bytes (cond bit (value_at (offsets t os bs) i) null)
    ≡ cond bit (bytes_at (offsets t os bs) i) []
bytes_in true true os bs i = refl
bytes_in true false os bs i = refl
bytes_in false t os bs i = refl

-- the values that are read are those of the rows
values_same : (t : LogicalType) (rows : List Value) (typed : All (HasType t) rows)
    (b : Bor (List ℕ)) (like : Bool) (os : List ℤ) (bs : List ℕ)
    (copied : AreCopied rows b.now (offsets like os bs)) (m : Bool) → is_nullable t ≡ m
    → map value_bytes rows ≡ values_from (bytes_at (offsets like os bs))
    (validity_from m (Some b) 0 (length rows)) 0 (length rows)
values_same t rows typed b like os bs copied m e =
    let l = offsets like os bs in
    let v = validity_from m (Some b) 0 (length rows) in
    fill_by_all (row_bytes (bytes_at l) v 0) (map value_bytes rows) (length rows) []
    (length-map rows value_bytes)
    (λ i h.
    let same : i ≡ 0 + i = omega arith in
    get_or-map value_bytes rows i null [] h
    ∙ ap value_bytes (row_at t rows typed b l copied i h)
    ∙ bytes_in (bit_of b.now i) like os bs i
    ∙ (λ j. cond (sym (valid_at t rows typed b l copied m e i h) j) (bytes_at l (same j)) []))

room_if : (t : LogicalType) (rows : List Value) (typed : All (HasType t) rows) (b : Bor (List ℕ))
    (l : Layout) (copied : AreCopied rows b.now l) (m : Bool) → is_nullable t ≡ m
    → HaveRoom (map value_bytes rows)
    → HasRoom l (validity_from m (Some b) 0 (length rows)) 0 (length rows)
room_if t rows typed b (bits bs) copied m e room = tt
room_if t rows typed b (numbers q xs) copied m e room = tt
room_if t rows typed b (offsets like os bs) copied m e room =
    subst HaveRoom (values_same t rows typed b like os bs copied m e) room
room_if t rows typed b (views like vs bs) copied m e room = absurd copied.packed

form_of : (m : Bool) (b : Bor (List ℕ)) (n : ℕ)
    → form_allows_null (validity_from m (Some b) 0 n).form ≡ m
form_of true b n = refl
form_of false b n = refl

pub read_again : (c : ColumnView) → All (HasType c.dtype) c.rows → (b : Bor (List ℕ))
    (values : ArrowValues) → IsCopy c b values → RowsHaveRoom c → IsReadBack c (copy_of c b values)
read_again c typed b values copy room =
    let t = c.dtype in
    let l = layout_of values in
    let m = is_nullable t in
    let n = length c.rows in
    record {
      formed = record {
        bits = omega (arith, copy.copied.bits);
        items = copy.copied.items;
        nulls = λ i h e.
            let same : i ≡ 0 + i = omega arith in
            ap (bit_of b.now) (sym same) ∙ bit_set t c.rows typed b l copy.copied e i h;
        values = record {
          lie = λ i h. lies_if c.rows b.now l copy.copied i (0 + i) (omega arith) h
              (is_valid_row (validity_from m (Some b) 0 n) i);
          room = room_if t c.rows typed b l copy.copied m refl room;
          texts = λ i h. text_if t c.rows typed b l copy.copied copy.dtype i (0 + i) (omega arith) h
              (is_valid_row (validity_from m (Some b) 0 n) i)
              (valid_at t c.rows typed b l copy.copied m refl i h);
        };
      };
      dtype = ap (layout_type l) (form_of m b n) ∙ copy.dtype;
      rows = rows_same t c.rows typed b l copy.copied m refl;
    }

-- values that are placed in the last buffer
after_by : (b d : Bool) (p : Placed) (n : ℕ) → nat_le n 12 ≡ b → nat_le (p.fill + n) most_bytes ≡ d
    → p.fill + n ≤ most_bytes
    → ((placed_after p n).count ≡ p.count) × ((placed_after p n).fill ≤ p.fill + n)
after_by true d p n e f h =
    subst (λ (q : Placed). (q.count ≡ p.count) × (q.fill ≤ p.fill + n))
    (sym (cond-true (nat_le n 12) p (cond (nat_le (p.fill + n) most_bytes) (behind_last p n)
    (in_next p n)) e))
    (refl, omega arith)
after_by false true p n e f h =
    subst (λ (q : Placed). (q.count ≡ p.count) × (q.fill ≤ p.fill + n))
    (sym (cond-false (nat_le n 12) p (cond (nat_le (p.fill + n) most_bytes) (behind_last p n)
    (in_next p n)) e
    ∙ cond-true (nat_le (p.fill + n) most_bytes) (behind_last p n) (in_next p n) f))
    (refl, omega arith)
after_by false false p n e f h =
    let fits : nat_le (p.fill + n) most_bytes ≡ true = le-leb (p.fill + n) most_bytes h in
    absurd (cc)

one_buffer : (p : Placed) (rows : List Value) → p.fill + length (joined rows) ≤ most_bytes
    → (placed_from p (map value_bytes rows)).count ≡ p.count
one_buffer p [] h = refl
one_buffer p (v ∷ vs) h =
    let n = length (value_bytes v) in
    let longer : length (joined (v ∷ vs)) ≡ n + length (joined vs) =
    length-append (value_bytes v) (joined vs) in
    let after = after_by (nat_le n 12) (nat_le (p.fill + n) most_bytes) p n refl refl
    (omega (arith, longer)) in
    one_buffer (placed_after p n) vs (omega (arith, after.1, longer)) ∙ after.0

-- rows of few bytes have room together
pub short_room : (rows : List Value) → length (joined rows) ≤ 4294967295
    → HaveRoom (map value_bytes rows)
short_room rows h = record {
  lens = λ k d lt.
      let within : k < length rows = omega (arith, lt, length-map rows value_bytes) in
      subst (λ (bs : List ℕ). length bs ≤ most_bytes)
      (sym (get_or-map value_bytes rows k null d within))
      (omega (arith, joined_room rows k within, h));
  buffers = omega (arith, one_buffer none_placed rows (omega (arith, h)));
}
