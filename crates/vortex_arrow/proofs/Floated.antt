-- Numbers that are changed one by one, in a part of a caller's buffer.
use Rattle.std.proofs.Common.{◌≡◌, ℕ, ◌+◌, ◌<◌, ◌≤◌, ℤ, pos, Bool, true, false, cond, List, [], ◌∷◌}
use Rattle.std.proofs.Common.{◌++◌, length, map, take, drop, set, get_or, refl, sym, ap, ◌∙◌, arith}
use Rattle.std.proofs.lemmas.List.{take_more, take_more_set, map_push, map-id, length-map, get_or-map}
use Rattle.std.proofs.lemmas.List.{length-take, get_or-take, get_or_append_left, length-append}
use Rattle.std.proofs.lemmas.List.{get_or-drop}
use Rattle.std.proofs.lemmas.List.FromFn.{get_or-map-range_with_len, fill_by_all}
use Rattle.std.specs.Prelude.{slice_index_or}
use Rattle.vortex_types.specs.LogicalTypes.{integer_type}
use Rattle.vortex_types.specs.declared.dtype.PType.{PType}
use Rattle.vortex_types.specs.Values.{Value, null, number}
use Rattle.vortex_bits.specs.Bits.{bit_of}
use Rattle.vortex_columns.specs.ColumnView.{row}
use Rattle.vortex_columns.specs.Made.{int_column}
use Rattle.vortex_columns.specs.ValidityView.{ValidityView, form_allows_null}
use Rattle.vortex_arrow.specs.Layouts.{numbers}
use Rattle.vortex_arrow.specs.Columns.{column_from}
use Rattle.vortex_arrow.specs.Written.{AreCopied}
use Rattle.vortex_arrow.specs.Floats.{with_number}
use Rattle.vortex_arrow.proofs.Rows.{integers_from, made_of_same}

-- the number that is changed next is as it was
pub same_next : (xs first : List ℤ) (i : ℕ) → drop i xs ≡ drop i first
    → get_or xs i (pos 0) ≡ get_or first i (pos 0)
same_next xs first i same =
    let place : i + 0 ≡ i = omega arith in
    ap (λ k. get_or xs k (pos 0)) (sym place)
    ∙ sym (get_or-drop i xs 0 (pos 0))
    ∙ ap (λ (zs : List ℤ). get_or zs 0 (pos 0)) same
    ∙ get_or-drop i first 0 (pos 0)
    ∙ ap (λ k. get_or first k (pos 0)) place

-- the numbers so far are changed, and the others are as they were
pub changed_more : (f : ℤ → ℤ) (xs first : List ℤ) (i : ℕ) (y : ℤ) → i < length xs
    → length xs ≡ length first → take i xs ≡ map f (take i first) → y ≡ f (get_or first i (pos 0))
    → take (i + 1) (set xs i y) ≡ map f (take (i + 1) first)
changed_more f xs first i y lt same so_far is =
    take_more_set xs i y lt
    ∙ ap (λ (zs : List ℤ). zs ++ y ∷ []) so_far
    ∙ ap (λ (z : ℤ). map f (take i first) ++ z ∷ []) is
    ∙ sym (map_push f (take i first) (get_or first i (pos 0)))
    ∙ ap (map f) (sym (take_more first i (pos 0) (omega (arith, lt, same))))

id_at : (xs : List ℤ) (i : ℕ) → get_or (map (λ x. x) xs) i (pos 0) ≡ get_or xs i (pos 0)
id_at xs i = ap (λ (zs : List ℤ). get_or zs i (pos 0)) (map-id xs)

-- a column of changed numbers
pub changed_from : (p : PType) (f : ℤ → ℤ) (ys part xs : List ℤ) (v : ValidityView) (from n : ℕ)
    → from + n ≤ length xs → ys ≡ map f part → part ≡ take n (drop from xs)
    → int_column p (λ x. x) ys v ≡ column_from (numbers p (map f xs)) v from n
changed_from p f ys part xs v from n room is part_is =
    ap (λ (zs : List ℤ). int_column p (λ x. x) zs v) is
    ∙ same_column
    ∙ integers_from p f part xs v from n room part_is
  where
    same_column : int_column p (λ x. x) (map f part) v ≡ int_column p f part v
    same_column =
        made_of_same (integer_type p (form_allows_null v.form)) v (length (map f part)) (length part)
        (λ i. number (slice_index_or (map (λ x. x) (map f part)) i (pos 0)))
        (λ i. number (slice_index_or (map f part) i (pos 0))) (length-map part f)
        (λ i h valid. ap number (id_at (map f part) i))

with_cond : (f : ℤ → ℤ) (b : Bool) (z : ℤ)
    → with_number f (cond b (number z) null) ≡ cond b (number (f z)) null
with_cond f true z = refl
with_cond f false z = refl

-- rows that are copied, with the numbers of the first changed
module _ (p : PType) (f : ℤ → ℤ) (rows : List Value) (validity : List ℕ) (mid new rest : List ℤ)
    (copied : AreCopied rows validity (numbers p (map (λ x. x) mid)))
    (is : new ≡ map f (take (length rows) mid) ++ rest) where
  many : length rows ≤ length mid
  many = omega (arith, copied.items, length-map mid (λ (x : ℤ). x))

  changed_at : (i : ℕ) → i < length rows
      → f (get_or (map (λ x. x) mid) i (pos 0)) ≡ get_or (map (λ x. x) new) i (pos 0)
  changed_at i lt =
      let front = map f (take (length rows) mid) in
      let within : i < length (take (length rows) mid) =
      omega (arith, lt, length-take (length rows) mid, many) in
      let inside : i < length front =
      omega (arith, within, length-map (take (length rows) mid) f) in
      ap f (id_at mid i ∙ sym (get_or-take (length rows) mid i (pos 0) lt))
      ∙ sym (get_or-map f (take (length rows) mid) i (pos 0) (pos 0) within)
      ∙ sym (get_or_append_left front rest (pos 0) i inside)
      ∙ ap (λ (zs : List ℤ). get_or zs i (pos 0)) (sym is)
      ∙ sym (id_at new i)

  pub changed_rows : AreCopied (map (with_number f) rows) validity (numbers p (map (λ x. x) new))
  changed_rows =
      let count = length-map rows (with_number f) in
      record {
        bits = omega (arith, copied.bits, count);
        items = omega (
          arith,
          count,
          many,
          length-map new (λ (x : ℤ). x),
          ap length is,
          length-append (map f (take (length rows) mid)) rest,
          length-map (take (length rows) mid) f,
          length-take (length rows) mid,
        );
        said = fill_by_all
            (λ i. cond (bit_of validity i) (number (get_or (map (λ x. x) new) i (pos 0))) null)
            (map (with_number f) rows) (length (map (with_number f) rows)) null refl
            (λ i h.
            let lt : i < length rows = omega (arith, h, count) in
            get_or-map (with_number f) rows i null null lt
            ∙ ap (λ (rs : List Value). with_number f (row rs i)) copied.said
            ∙ ap (with_number f)
            (get_or-map-range_with_len
            (λ j. cond (bit_of validity j) (number (get_or (map (λ x. x) mid) j (pos 0))) null)
            0 (length rows) i i null lt (omega arith))
            ∙ with_cond f (bit_of validity i) (get_or (map (λ x. x) mid) i (pos 0))
            ∙ ap (λ z. cond (bit_of validity i) (number z) null) (changed_at i lt));
        packed = tt;
      }
