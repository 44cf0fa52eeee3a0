-- Rows that are appended to others in the buffers of one column.
use Rattle.std.proofs.Common.{◌≡◌, ◌⊎◌, inl, inr, ℕ, ◌+◌, ◌-◌, ◌*◌, ◌<◌, ◌≤◌, ℤ, pos}
use Rattle.std.proofs.Common.{Bool, true, false, cond, List, ◌++◌, length, map, take, drop, get_or}
use Rattle.std.proofs.Common.{refl, sym, ap, ◌∙◌, arith}
use Rattle.std.proofs.lemmas.List.{get_or-take, get_or-drop, get_or_append_left, take-map, drop-map}
use Rattle.std.proofs.lemmas.List.{get_or-append_right, length-take, length-map, length-append}
use Rattle.std.proofs.lemmas.List.{take-append-le, take-take}
use Rattle.std.proofs.lemmas.List.FromFn.{fill_by_all, get_or-map-range_with_len}
use Rattle.std.proofs.lemmas.List.FromFn.{length-map-range_with_len}
use Rattle.vortex_types.specs.declared.dtype.PType.{PType}
use Rattle.vortex_types.specs.LogicalTypes.{LogicalType, is_nullable}
use Rattle.vortex_types.specs.Values.{Value, null, truth, number, is_null}
use Rattle.vortex_types.proofs.NullValues.{not_null}
use Rattle.vortex_bits.specs.Bits.{bit_of, bits_from}
use Rattle.vortex_bits.proofs.Opened.{bit_of_rest, row_of_bits, count_of_bits}
use Rattle.vortex_columns.specs.ColumnView.{row, AreTyped}
use Rattle.vortex_columns.specs.ValidityView.{is_valid_row, FitsRows}
use Rattle.vortex_arrow.specs.Layouts.{Layout, bits, numbers, value_at}
use Rattle.vortex_arrow.specs.Columns.{column_from}
use Rattle.vortex_arrow.specs.Written.{bytes_for, AreCopied}
use Rattle.vortex_arrow.proofs.Parts.{bit_before}
use Rattle.yurkije_columns.specs.Joining.{validity_in, row_at, Joins}

-- a list that was lengthened, of which the part from a place on was written: what stands before it
kept : {A : Type 0} (old filled new rest : List A) (n end : ℕ)
    → filled ≡ take end old ++ rest → take n new ≡ take n filled
    → n ≤ end → n ≤ length old → take n new ≡ take n old
kept old filled new rest n end is same le within =
    same
    ∙ ap (take n) is
    ∙ take-append-le n (take end old) rest
    (omega (arith, length-take end old))
    ∙ take-take n end old le

number_kept : {A : Type 0} (f : A → ℤ) (old new : List A) (n : ℕ) → take n new ≡ take n old
    → (i : ℕ) → i < n → get_or (map f new) i (pos 0) ≡ get_or (map f old) i (pos 0)
number_kept f old new n same i lt =
    sym (get_or-take n (map f new) i (pos 0) lt)
    ∙ ap (λ (ys : List ℤ). get_or ys i (pos 0))
    (take-map f n new ∙ ap (map f) same ∙ sym (take-map f n old))
    ∙ get_or-take n (map f old) i (pos 0) lt

-- a row that was copied
copied_row : (rows : List Value) (validity : List ℕ) (l : Layout) → AreCopied rows validity l
    → (j : ℕ) → j < length rows → row rows j ≡ row_at validity l j
copied_row rows validity l h j lt =
    ap (λ (rs : List Value). row rs j) h.said
    ∙ get_or-map-range_with_len (row_at validity l) 0 (length rows) j j null lt (omega arith)

-- a bit of the part from one byte on
bit_behind : (bytes : List ℕ) (at n j : ℕ) → 8 * at ≡ n
    → bit_of (drop at bytes) j ≡ bit_of bytes (n + j)
bit_behind bytes at n j whole =
    bit_of_rest bytes (drop at bytes) at j refl ∙ ap (λ k. bit_of bytes (k + j)) whole

number_behind : {A : Type 0} (f : A → ℤ) (xs : List A) (n j : ℕ)
    → get_or (map f (drop n xs)) j (pos 0) ≡ get_or (map f xs) (n + j) (pos 0)
number_behind f xs n j =
    ap (λ (ys : List ℤ). get_or ys j (pos 0)) (sym (drop-map f n xs))
    ∙ get_or-drop n (map f xs) j (pos 0)

module _ (n at end : ℕ) (rows : List Value) (old filled new rest : List ℕ) (whole : 8 * at ≡ n)
    (most : end ≡ at + bytes_for (length rows)) (is : filled ≡ take end old ++ rest)
    (same : take at new ≡ take at filled) (within : n ≤ 8 * length old) where
  bits_kept : (i : ℕ) → i < n → bit_of new i ≡ bit_of old i
  bits_kept i lt =
      bit_before old new at i
      (kept old filled new rest at end is same (omega (arith, most)) (omega (arith, whole, within)))
      (omega (arith, whole, lt))

  -- truth values
  module _ (old_xs filled_xs new_xs rest_xs : List ℕ)
      (is_xs : filled_xs ≡ take end old_xs ++ rest_xs)
      (same_xs : take at new_xs ≡ take at filled_xs) (within_xs : n ≤ 8 * length old_xs)
      (copied : AreCopied rows (drop at new) (bits (drop at new_xs))) (count : length new ≡ end)
      (count_xs : length new_xs ≡ end) where
    bools_behind : (j : ℕ) → j < length rows → row rows j ≡ row_at new (bits new_xs) (n + j)
    bools_behind j lt =
        copied_row rows (drop at new) (bits (drop at new_xs)) copied j lt
        ∙ ap (λ b. cond b (truth (bit_of (drop at new_xs) j)) null) (bit_behind new at n j whole)
        ∙ ap (λ b. cond (bit_of new (n + j)) (truth b) null) (bit_behind new_xs at n j whole)

    pub bools_join : Joins n rows old (bits old_xs) new (bits new_xs)
    bools_join = record {
      bits = bits_kept;
      values = λ i lt.
          ap truth
          (bit_before old_xs new_xs at i
          (kept old_xs filled_xs new_xs rest_xs at end is_xs same_xs (omega (arith, most))
          (omega (arith, whole, within_xs)))
          (omega (arith, whole, lt)));
      behind = bools_behind;
      room = record {
        bits = omega (arith, whole, most, count);
        items = omega (arith, whole, most, count_xs);
      };
    }

  -- integers
  module _ {A : Type 0} (p : PType) (f : A → ℤ) (old_xs filled_xs new_xs rest_xs : List A)
      (last : ℕ) (is_xs : filled_xs ≡ take last old_xs ++ rest_xs)
      (same_xs : take n new_xs ≡ take n filled_xs) (within_xs : n ≤ length old_xs)
      (most_xs : last ≡ n + length rows)
      (copied : AreCopied rows (drop at new) (numbers p (map f (drop n new_xs))))
      (count : length new ≡ end) (count_xs : length new_xs ≡ last) where
    integers_behind : (j : ℕ) → j < length rows
        → row rows j ≡ row_at new (numbers p (map f new_xs)) (n + j)
    integers_behind j lt =
        copied_row rows (drop at new) (numbers p (map f (drop n new_xs))) copied j lt
        ∙ ap (λ b. cond b (number (get_or (map f (drop n new_xs)) j (pos 0))) null)
        (bit_behind new at n j whole)
        ∙ ap (λ z. cond (bit_of new (n + j)) (number z) null) (number_behind f new_xs n j)

    pub integers_join : Joins n rows old (numbers p (map f old_xs)) new (numbers p (map f new_xs))
    integers_join = record {
      bits = bits_kept;
      values = λ i lt.
          ap number
          (number_kept f old_xs new_xs n
          (kept old_xs filled_xs new_xs rest_xs n last is_xs same_xs (omega (arith, most_xs))
          within_xs)
          i lt);
      behind = integers_behind;
      room = record {
        bits = omega (arith, whole, most, count);
        items = omega (arith, most_xs, count_xs, length-map new_xs f);
      };
    }

-- row i of n in the column of the buffers
abbrev said : Bool → List ℕ → Layout → ℕ → ℕ → Value
said b bytes l n i = cond (is_valid_row (validity_in b bytes n) i) (value_at l (0 + i)) null

abbrev pub rows_in : Bool → List ℕ → Layout → ℕ → List Value
rows_in b bytes l n = (column_from l (validity_in b bytes n) 0 n).rows

pub counted : (b : Bool) (bytes : List ℕ) (l : Layout) (n : ℕ)
    → length (rows_in b bytes l n) ≡ n
counted b bytes l n = length-map-range_with_len (said b bytes l n) 0 n

bit_row : (bytes : List ℕ) (n i : ℕ) → i < n
    → get_or (bits_from bytes 0 n) i false ≡ bit_of bytes i
bit_row bytes n i lt =
    let place : 0 + i ≡ i = omega arith in
    row_of_bits bytes 0 n i lt ∙ ap (bit_of bytes) place

module _ (n : ℕ) (rows : List Value) (old_bits : List ℕ) (old : Layout) (new_bits : List ℕ)
    (new : Layout) (joins : Joins n rows old_bits old new_bits new) where
  value_is : (i : ℕ) → i < n → value_at old (0 + i) ≡ value_at new (0 + i)
  value_is i lt =
      let place : 0 + i ≡ i = omega arith in
      ap (value_at old) place ∙ sym (joins.values i lt) ∙ ap (value_at new) (sym place)

  -- a row of those that were there
  first_is : (b : Bool) (i : ℕ) → i < n
      → said b old_bits old n i ≡ said b new_bits new (n + length rows) i
  first_is false i lt = value_is i lt
  first_is true i lt =
      ap (λ b. cond b (value_at old (0 + i)) null)
      (bit_row old_bits n i lt ∙ sym (joins.bits i lt)
      ∙ sym (bit_row new_bits (n + length rows) i (omega (arith, lt))))
      ∙ ap (λ v. cond (get_or (bits_from new_bits 0 (n + length rows)) i false) v null)
      (value_is i lt)

  value_or : (b : Bool) (v w : Value) → v ≡ cond b w null → is_null v ≡ false → v ≡ w
  value_or true v w e plain = e
  value_or false v w e plain = let none : is_null v ≡ true = ap is_null e in cc

  -- a row of those after them
  after_is : (b : Bool) → (b ≡ false → (j : ℕ) → j < length rows → is_null (row rows j) ≡ false)
      → (j : ℕ) → j < length rows
      → row rows j ≡ said b new_bits new (n + length rows) (n + j)
  after_is false plain j lt =
      let place : 0 + (n + j) ≡ n + j = omega arith in
      value_or (bit_of new_bits (n + j)) (row rows j) (value_at new (n + j)) (joins.behind j lt)
      (plain refl j lt)
      ∙ ap (value_at new) (sym place)
  after_is true plain j lt =
      let place : 0 + (n + j) ≡ n + j = omega arith in
      joins.behind j lt
      ∙ ap (λ b. cond b (value_at new (n + j)) null)
      (sym (bit_row new_bits (n + length rows) (n + j) (omega (arith, lt))))
      ∙ ap (λ p. cond (get_or (bits_from new_bits 0 (n + length rows)) (n + j) false)
      (value_at new p) null) (sym place)

  split : (i : ℕ) → i < n + length rows
      → (i < n) ⊎ ((j : ℕ) × (j < length rows) × (i ≡ n + j))
  split i lt = by (omega_cases i n)
    where
      omega_cases : (i m : ℕ) → (i < m) ⊎ (m ≤ i)
      omega_cases i m = grind arith

      by : (i < n) ⊎ (n ≤ i) → (i < n) ⊎ ((j : ℕ) × (j < length rows) × (i ≡ n + j))
      by (inl low) = inl low
      by (inr high) = inr (i - n, omega (arith, lt, high), omega (arith, high))

  module _ (b : Bool)
      (plain : b ≡ false → (j : ℕ) → j < length rows → is_null (row rows j) ≡ false) where
    each : (i : ℕ) → (i < n) ⊎ ((j : ℕ) × (j < length rows) × (i ≡ n + j))
        → row (rows_in b old_bits old n ++ rows) i ≡ said b new_bits new (n + length rows) i
    each i (inl low) =
        get_or_append_left (rows_in b old_bits old n) rows null i
        (omega (arith, low, counted b old_bits old n))
        ∙ get_or-map-range_with_len (said b old_bits old n) 0 n i i null low (omega arith)
        ∙ first_is b i low
    each i (inr h) =
        let back : i - n ≡ h.0 = omega (arith, h.2) in
        get_or-append_right (rows_in b old_bits old n) rows n i null (counted b old_bits old n)
        (omega (arith, h.2))
        ∙ ap (row rows) back
        ∙ after_is b plain h.0 h.1
        ∙ ap (said b new_bits new (n + length rows)) (sym h.2)

    pub joined_rows : rows_in b new_bits new (n + length rows)
        ≡ rows_in b old_bits old n ++ rows
    joined_rows =
        let count : length (rows_in b old_bits old n ++ rows) ≡ n + length rows =
        omega (arith, length-append (rows_in b old_bits old n) rows, counted b old_bits old n) in
        sym
        (fill_by_all (said b new_bits new (n + length rows)) (rows_in b old_bits old n ++ rows)
        (n + length rows) null count (λ i lt. each i (split i lt)))

-- the rows of a type that is not nullable are not null
pub plain_rows : (t : LogicalType) (rows : List Value) (b : Bool) → b ≡ is_nullable t
    → AreTyped t rows → b ≡ false → (j : ℕ) → j < length rows → is_null (row rows j) ≡ false
plain_rows t rows b nullable typed not j lt =
    not_null t (row rows j) (typed j null lt) (sym nullable ∙ not)

pub fits : (b : Bool) (bytes : List ℕ) (n : ℕ) → FitsRows (validity_in b bytes n) n
fits false bytes n = tt
fits true bytes n = count_of_bits bytes 0 n
