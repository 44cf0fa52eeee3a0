-- Some rows of each column mean what those rows mean.
use Rattle.std.proofs.Common.{◌≡◌, ℕ, zero, suc, ◌+◌, ◌<◌, ◌≤◌, refl, sym, ◌∙◌, List, [], ◌∷◌}
use Rattle.std.proofs.Common.{map, length, take, subst, arith, add-one, ◌++◌, Option, Some, None, nat_eq, true, get_or, cond}
use Rattle.std.specs.Prelude.{slice_get, All, IfSome, ◌^◌}
use Rattle.std.specs.List.{range_with_len}
use Rattle.std.proofs.lemmas.List.{get_or_default}
use Rattle.std.proofs.lemmas.List.FromFn.{length-map-range_with_len}
use Rattle.vortex_types.specs.LogicalTypes.{Fields}
use Rattle.vortex_types.specs.Values.{null}
use Rattle.vortex_columns.specs.ColumnView.{ColumnView, null_column, row}
use Rattle.vortex_columns.specs.ValidityView.{is_valid_row}
use Rattle.vortex_interface.specs.Eval.{eval}
use Rattle.vortex_interface.specs.Execution.{LeavesFit, other_length}
use Rattle.vortex_interface.specs.Bound.{IsBound}
use Rattle.vortex_functions.specs.Walks.{AllMean}
use Rattle.vortex_expressions.specs.Items.{Tree, meaning}
use Rattle.vortex_arrow.specs.declared.column.ArrowColumn.{ArrowColumn}
use Rattle.vortex_arrow.specs.Layouts.{layout_of, value_at}
use Rattle.vortex_arrow.specs.Columns.{arrow_column, arrow_validity}
use Rattle.vortex_logical.specs.declared.kind.Kind.{Kind}
use Rattle.vortex_program.specs.Reads.{BothAt}
use Rattle.vortex_program.specs.Rows.{HasRows}
use Rattle.vortex_program.proofs.Answered.{all_head, all_tail, all_cons, all_more}
use Rattle.vortex_program.proofs.Agreeing.{leaves_fit}
use Rattle.vortex_program.proofs.SomeRows.{row_is, leaves_fit_there}
use Rattle.yurkije_columns.specs.Batches.{AllServe, batch_column}
use Rattle.yurkije_columns.specs.Checking.{IsFlat}
use Rattle.yurkije_core.specs.Chunks.{HasChunkIfRead}

module _ (first count : ℕ) where
  pub even_chunk : (cs ds : List ColumnView) → AllMean (HasRows first count) cs ds
      → other_length count ds ≡ None
  even_chunk [] [] h = refl
  even_chunk [] (d ∷ ds) h = absurd h
  even_chunk (c ∷ cs) [] h = absurd h
  even_chunk (c ∷ cs) (d ∷ ds) h =
      let same : nat_eq (length d.rows) count ≡ true = grind (arith, h.0.counted) in
      rw same (even_chunk cs ds h.1)

  both_at : (cs ds : List ColumnView) → AllMean (HasRows first count) cs ds → (k : ℕ)
      → BothAt (HasRows first count) (slice_get cs k) (slice_get ds k)
  both_at [] [] h k = tt
  both_at [] (d ∷ ds) h k = absurd h
  both_at (c ∷ cs) [] h k = absurd h
  both_at (c ∷ cs) (d ∷ ds) h zero = h.0
  both_at (c ∷ cs) (d ∷ ds) h (suc k) = both_at cs ds h.1 k

  back_at : (cs ds : List ColumnView) → AllMean (HasRows first count) cs ds → (k : ℕ)
      → BothAt (λ d c. HasRows first count c d) (slice_get ds k) (slice_get cs k)
  back_at [] [] h k = tt
  back_at [] (d ∷ ds) h k = absurd h
  back_at (c ∷ cs) [] h k = absurd h
  back_at (c ∷ cs) (d ∷ ds) h zero = h.0
  back_at (c ∷ cs) (d ∷ ds) h (suc k) = back_at cs ds h.1 k

  module _ (cs ds : List ColumnView) (h : AllMean (HasRows first count) cs ds) where
    pub means_there : (t : Tree) → IsBound t → (j : ℕ) → j < count
        → eval meaning ds t j ≡ eval meaning cs t (first + j)
    means_there t bound j lt =
        row_is first count cs ds meaning j lt t bound (λ k r. both_at cs ds h k)

    pub fits_there : (t : Tree) → LeavesFit cs t → LeavesFit ds t
    fits_there t fit = leaves_fit_there first count cs ds t (λ k r. both_at cs ds h k) fit

    pub fits_whole : (t : Tree) → LeavesFit ds t → LeavesFit cs t
    fits_whole t fit =
        leaves_fit (λ d c. HasRows first count c d) ds cs (λ d c r. sym r.dtype) t
        (λ k r. back_at cs ds h k) fit

-- a chunk of columns that have all rows
pub chunk_at : (first count rows : ℕ) (cs : List (Option ArrowColumn)) → first + count ≤ rows
    → All (HasChunkIfRead 0 rows) cs → All (λ o. IfSome o (λ c. c.offset + rows < 2 ^ 64)) cs
    → All (HasChunkIfRead first count) cs
chunk_at first count rows cs within h place i d lt = go (get_or cs i d) (h i d lt) (place i d lt)
  where
    go : (o : Option ArrowColumn) → HasChunkIfRead 0 rows o
        → IfSome o (λ c. c.offset + rows < 2 ^ 64) → HasChunkIfRead first count o
    go None has at = tt
    go (Some c) has at = record {
      place = omega (arith, within, at);
      within = omega (arith, within, has.within);
    }

counted : (c : ArrowColumn) → length (arrow_column c).rows ≡ c.length
counted c =
    length-map-range_with_len
    (λ i. cond (is_valid_row (arrow_validity c) i) (value_at (layout_of c.values) (c.offset + i)) null)
    0 c.length

-- nulls in the place of a column
nulls_counted : (n : ℕ) → length (null_column n).rows ≡ n
nulls_counted n = length-map-range_with_len (λ i. null) 0 n

null_there : (n i : ℕ) → row (null_column n).rows i ≡ null
null_there n i = go (range_with_len 0 n) i
  where
    go : (is : List ℕ) (j : ℕ) → row (map (λ k. null) is) j ≡ null
    go [] j = refl
    go (k ∷ is) zero = refl
    go (k ∷ is) (suc j) = go is j

pub nulls_have : (first count n : ℕ) (d : ColumnView) → d ≡ null_column count
    → HasRows first count (null_column n) d
nulls_have first count n d is = subst (HasRows first count (null_column n)) (sym is) (record {
  dtype = refl;
  counted = nulls_counted count;
  each = λ j lt. null_there count j ∙ sym (null_there n (first + j));
})

-- columns of so many rows
pub even_columns : (n : ℕ) (cs : List (Option ArrowColumn))
    → All (λ o. IfSome o (λ c. c.length ≡ n)) cs → other_length n (map (batch_column n) cs) ≡ None
even_columns n [] h = refl
even_columns n (None ∷ cs) h =
    let same : nat_eq (length (null_column n).rows) n ≡ true = grind (arith, nulls_counted n) in
    rw same (even_columns n cs (λ k d lt. h (suc k) d (omega (arith, lt))))
even_columns n (Some c ∷ cs) h =
    let here : c.length ≡ n = h 0 None (omega arith) in
    let same : nat_eq (length (arrow_column c).rows) n ≡ true = grind (arith, counted c, here) in
    rw same (even_columns n cs (λ k d lt. h (suc k) d (omega (arith, lt))))

at_is : (cs : List (Option ArrowColumn)) (i : ℕ) (d : Option ArrowColumn) → i < length cs
    → slice_get cs i ≡ Some (get_or cs i d)
at_is [] i d lt = absurd (omega (arith, lt))
at_is (c ∷ cs) zero d lt = refl
at_is (c ∷ cs) (suc i) d lt = at_is cs i d (omega (arith, lt))

module _ (scope : Fields) (kinds : List Kind) (n : ℕ) (cs : List (Option ArrowColumn))
    (serve : AllServe scope kinds n cs) where
  length_if : (o : Option ArrowColumn) (i : ℕ) → i < length cs → slice_get cs i ≡ Some o
      → IfSome o (λ c. c.length ≡ n)
  length_if None i lt there = tt
  length_if (Some c) i lt there = (serve.serve i lt c there).rows

  pub served_counted : All (λ o. IfSome o (λ c. c.length ≡ n)) cs
  served_counted i d lt = length_if (get_or cs i d) i lt (at_is cs i d lt)

  place_if : (o : Option ArrowColumn) → IfSome o IsFlat → IfSome o (λ c. c.length ≡ n)
      → IfSome o (λ c. c.offset + n < 2 ^ 64)
  place_if None flat counted = tt
  place_if (Some c) flat counted = omega (arith, flat.end, counted)

  pub served_place : All (λ o. IfSome o IsFlat) cs
      → All (λ o. IfSome o (λ c. c.offset + n < 2 ^ 64)) cs
  served_place flat i d lt = place_if (get_or cs i d) (flat i d lt) (served_counted i d lt)

  chunk_if : (o : Option ArrowColumn) → IfSome o (λ c. c.offset + n < 2 ^ 64)
      → IfSome o (λ c. c.length ≡ n) → HasChunkIfRead 0 n o
  chunk_if None place counted = tt
  chunk_if (Some c) place counted = record {
    place = omega (arith, place);
    within = omega (arith, counted);
  }

  pub served_chunk : All (λ o. IfSome o IsFlat) cs → All (HasChunkIfRead 0 n) cs
  served_chunk flat i d lt =
      chunk_if (get_or cs i d) (served_place flat i d lt) (served_counted i d lt)

-- one column more of which P holds
module _ (P : Option ArrowColumn → Type 0) where
  all_more_of : (cs : List (Option ArrowColumn)) (k j : ℕ) (c : Option ArrowColumn) → j ≡ suc k
      → k < length cs → c ≡ get_or cs k c → All P (take k cs) → P c → All P (take j cs)
  all_more_of cs k j c next lt at h r =
      subst (λ (n : ℕ). All P (take n cs)) (sym next) (go cs k lt at h)
    where
      go : (ys : List (Option ArrowColumn)) (l : ℕ) → l < length ys → c ≡ get_or ys l c
          → All P (take l ys) → All P (take (suc l) ys)
      go [] l below at h = absurd (omega (arith, below))
      go (y ∷ ys) zero below at h =
          all_cons P y [] (subst P at r) (λ k d no. absurd (omega (arith, no)))
      go (y ∷ ys) (suc l) below at h =
          all_cons P y (take (suc l) ys) (all_head P y (take l ys) h)
          (go ys l (omega (arith, below)) at (all_tail P y (take l ys) h))

  pub all_next : (cs : List (Option ArrowColumn)) (k : ℕ) (d : Option ArrowColumn)
      → k < length cs → All P (take k cs) → P (get_or cs k d) → All P (take (k + 1) cs)
  all_next cs k d lt h r =
      all_more_of cs k (k + 1) (get_or cs k d) (add-one k) lt
      (get_or_default cs k d (get_or cs k d) lt) h r

-- the rows of one column more
pub rows_next : (first count n : ℕ) (cs : List (Option ArrowColumn)) (ds : List ColumnView) (k : ℕ)
    (d : Option ArrowColumn) (o : ColumnView) → k < length cs
    → AllMean (HasRows first count) (map (batch_column n) (take k cs)) ds
    → HasRows first count (batch_column n (get_or cs k d)) o
    → AllMean (HasRows first count) (map (batch_column n) (take (k + 1) cs)) (ds ++ o ∷ [])
rows_next first count n cs ds k d o lt so_far has =
    all_more (HasRows first count) (batch_column n) cs ds k (k + 1) (get_or cs k d) o (add-one k) lt
    (get_or_default cs k d (get_or cs k d) lt) so_far has
