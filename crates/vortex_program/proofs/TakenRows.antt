-- Rows that are taken of the columns that are marked are those rows.
use Rattle.std.proofs.Common.{◌≡◌, ℕ, zero, suc, ◌+◌, ◌<◌, ◌≤◌, refl, sym, ap, subst, ◌∙◌, List}
use Rattle.std.proofs.Common.{[], ◌∷◌, ◌++◌, arith, length, take, take_all, get_or}
use Rattle.std.proofs.Common.{Bool, true, false, IsTrue, None}
use Rattle.std.proofs.Common.{nat_eq}
use Rattle.std.proofs.Common.{inl, inr}
use Rattle.std.specs.Prelude.{◌⊎◌, All, slice_get, slice_index_or}
use Rattle.std.specs.List.{range_with_len}
use Rattle.std.proofs.Math.Nat.{add-zero}
use Rattle.std.proofs.lemmas.List.{get_or-map, get_or_default, length-map}
use Rattle.std.proofs.lemmas.List.FromFn.{length-range_with_len, get_or-range_with_len}
use Rattle.std.proofs.lemmas.List.FromFn.{length-map-range_with_len}
use Rattle.vortex_types.specs.Values.{null}
use Rattle.vortex_columns.specs.ColumnView.{ColumnView, row, constant_column, scalar_in}
use Rattle.vortex_columns.specs.ColumnView.{null_column}
use Rattle.vortex_columns.specs.Taken.{IsTaken}
use Rattle.vortex_interface.specs.Execution.{other_length}
use Rattle.vortex_program.specs.Reads.{BothAt}
use Rattle.vortex_program.specs.Rows.{HasRowsAt, HaveRowsAt, IsPartAt, IsMarked}
use Rattle.vortex_program.specs.Rows.{HasRows, IsPart, from, numbered}

-- one row, as a constant
pub one_row_has : (i : ℕ) (c d : ColumnView) → d ≡ constant_column (scalar_in c i) 1
    → HasRows i 1 c d
one_row_has i c d is =
    subst (λ (x : ColumnView). HasRows i 1 c x) (sym is)
    (record {
      dtype = refl;
      counted = refl;
      each = λ j lt.
          let first : j ≡ 0 = omega (arith, lt) in
          rw first (ap (row c.rows) (sym (add-zero i)));
    })

-- the numbers of rows that a column has
pub numbers_within : (first count n : ℕ) → first + count ≤ n
    → All (λ k. k < n) (range_with_len first count)
numbers_within first count n within k d lt =
    let below : k < count = omega (arith, lt, length-range_with_len first count) in
    subst (λ i. i < n) (sym (get_or-range_with_len first count k d below))
    (omega (arith, below, within))

-- rows that were taken by their numbers
pub taken_has : (first count : ℕ) (c d : ColumnView) → IsTaken c (range_with_len first count) d
    → HasRows first count c d
taken_has first count c d h = record {
  dtype = h.dtype;
  counted = ap length h.rows ∙ length-map-range_with_len (row c.rows) first count;
  each = λ j lt.
      let numbers = range_with_len first count in
      let below : j < length numbers = omega (arith, lt, length-range_with_len first count) in
      ap (λ rows. row rows j) h.rows ∙ get_or-map (row c.rows) numbers j 0 null below
      ∙ ap (row c.rows) (get_or-range_with_len first count j 0 lt);
}

pub nulls_counted : (n : ℕ) → length (null_column n).rows ≡ n
nulls_counted n = length-map-range_with_len (λ i. null) 0 n

-- rows that were taken by their numbers
pub taken_at : (numbers : List ℕ) (c d : ColumnView) → IsTaken c numbers d
    → HasRowsAt (numbered numbers) (length numbers) c d
taken_at numbers c d h = record {
  dtype = h.dtype;
  counted = ap length h.rows ∙ length-map numbers (row c.rows);
  each = λ j lt. ap (λ rows. row rows j) h.rows ∙ get_or-map (row c.rows) numbers j 0 null lt;
}

-- of a column that is read its rows, and of another nulls
pub read_part_at : (at : ℕ → ℕ) (count : ℕ) (read : Bool) (c d : ColumnView)
    → HasRowsAt at count c d → IsPartAt read at count c d
read_part_at at count read c d h = record { counted = h.counted; rows = λ marked. h }

pub other_part_at : (at : ℕ → ℕ) (count : ℕ) (read : Bool) (c d : ColumnView) → read ≡ false
    → d ≡ null_column count → IsPartAt read at count c d
other_part_at at count read c d unread nulls = record {
  counted = ap (λ (x : ColumnView). length x.rows) nulls ∙ nulls_counted count;
  rows = λ marked. let both : false ≡ true = sym unread ∙ marked in cc;
}

-- the same of the rows from the first on
pub other_part : (first count : ℕ) (read : Bool) (c d : ColumnView) → read ≡ false
    → d ≡ null_column count → IsPart read first count c d
other_part first count = other_part_at (from first) count

-- numbers that are asked of more than one row
pub several_numbered : (first count : ℕ) (numbers : List ℕ)
    → (count ≡ 1) ⊎ (numbers ≡ range_with_len first count) → (count ≡ 1 → ⊥)
    → numbers ≡ range_with_len first count
several_numbered first count numbers (inl one) several = absurd (several one)
several_numbered first count numbers (inr are) several = are

module _ (at : ℕ → ℕ) (count : ℕ) (read : List Bool) where
  -- so it is with columns from that place on
  abbrev pub ArePartsFrom : ℕ → List ColumnView → List ColumnView → Type 0
  ArePartsFrom i [] [] = Unit {0}
  ArePartsFrom i [] (d ∷ ds) = ⊥
  ArePartsFrom i (c ∷ cs) [] = ⊥
  ArePartsFrom i (c ∷ cs) (d ∷ ds) =
      IsPartAt (slice_index_or read i false) at count c d × ArePartsFrom (suc i) cs ds

  -- the columns so far, and one column more
  pub part_more : (cs ds : List ColumnView) (k j : ℕ) (c d : ColumnView) → j ≡ suc k
      → k < length cs → c ≡ get_or cs k c → ArePartsFrom 0 (take k cs) ds
      → (e : Bool) → k < length read → IsPartAt (slice_index_or read k e) at count c d
      → ArePartsFrom 0 (take j cs) (ds ++ d ∷ [])
  part_more cs ds k j c d next lt here_is h e there is =
      let here : k ≡ 0 + k = omega arith in
      let same = get_or_default read k e false there in
      subst (λ (n : ℕ). ArePartsFrom 0 (take n cs) (ds ++ d ∷ [])) (sym next)
      (go cs ds k 0 lt here_is h
      (subst (λ (n : ℕ). IsPartAt (slice_index_or read n false) at count c d) here
      (subst (λ (x : Bool). IsPartAt x at count c d) same is)))
    where
      go : (xs os : List ColumnView) (l i : ℕ) → l < length xs → c ≡ get_or xs l c
          → ArePartsFrom i (take l xs) os
          → IsPartAt (slice_index_or read (i + l) false) at count c d
          → ArePartsFrom i (take (suc l) xs) (os ++ d ∷ [])
      go [] os l i below there so_far here = absurd (omega (arith, below))
      go (x ∷ xs) [] zero i below there so_far here = (
        subst (λ (y : ColumnView). IsPartAt (slice_index_or read i false) at count y d) there
            (subst (λ (n : ℕ). IsPartAt (slice_index_or read n false) at count c d) (add-zero i)
            here),
        tt,
      )
      go (x ∷ xs) (o ∷ os) zero i below there so_far here = absurd so_far
      go (x ∷ xs) [] (suc l) i below there so_far here = absurd so_far
      go (x ∷ xs) (o ∷ os) (suc l) i below there so_far here =
          let moved : i + suc l ≡ suc i + l = omega arith in (
            so_far.0,
            go xs os l (suc i) (omega (arith, below)) there so_far.1
                (subst (λ (n : ℕ). IsPartAt (slice_index_or read n false) at count c d) moved here),
          )

  even_parts : (i : ℕ) (cs ds : List ColumnView) → ArePartsFrom i cs ds
      → other_length count ds ≡ None
  even_parts i [] [] h = refl
  even_parts i [] (d ∷ ds) h = absurd h
  even_parts i (c ∷ cs) [] h = absurd h
  even_parts i (c ∷ cs) (d ∷ ds) h =
      let same : nat_eq (length d.rows) count ≡ true = grind (arith, h.0.counted) in
      rw same (even_parts (suc i) cs ds h.1)

  parts_at : (i : ℕ) (cs ds : List ColumnView) → ArePartsFrom i cs ds → (k : ℕ)
      → (k < length cs → IsTrue (slice_index_or read (i + k) false))
      → BothAt (HasRowsAt at count) (slice_get cs k) (slice_get ds k)
  parts_at i [] [] h k marked = tt
  parts_at i [] (d ∷ ds) h k marked = absurd h
  parts_at i (c ∷ cs) [] h k marked = absurd h
  parts_at i (c ∷ cs) (d ∷ ds) h zero marked =
      h.0.rows
      (subst (λ (n : ℕ). IsTrue (slice_index_or read n false)) (add-zero i)
      (marked (omega arith)))
  parts_at i (c ∷ cs) (d ∷ ds) h (suc k) marked =
      let moved : i + suc k ≡ suc i + k = omega arith in
      parts_at (suc i) cs ds h.1 k
      (λ lt.
      subst (λ (n : ℕ). IsTrue (slice_index_or read n false)) moved
      (marked (omega (arith, lt))))

  pub parts_have : (cs ds : List ColumnView) → ArePartsFrom 0 cs ds
      → HaveRowsAt (IsMarked read cs) at count cs ds
  parts_have cs ds h = record {
    even = even_parts 0 cs ds h;
    each = λ k marked.
        let here : k ≡ 0 + k = omega arith in
        parts_at 0 cs ds h k
        (λ lt. subst (λ (n : ℕ). IsTrue (slice_index_or read n false)) here (marked lt));
  }

  -- all columns
  pub all_parts : (cs ds : List ColumnView) (k : ℕ) → length cs ≤ k
      → ArePartsFrom 0 (take k cs) ds → HaveRowsAt (IsMarked read cs) at count cs ds
  all_parts cs ds k past h =
      parts_have cs ds
      (subst (λ (xs : List ColumnView). ArePartsFrom 0 xs ds) (take_all k cs past) h)
