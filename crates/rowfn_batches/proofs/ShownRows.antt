-- What is shown of values has as many rows; and what ends rows of which one has no text.
use Rattle.std.proofs.Common.{◌≡◌, ◌≢◌, ℕ, ◌<◌, ◌≤◌, List, [], ◌∷◌, Bool, true, false, Option}
use Rattle.std.proofs.Common.{Some, None, map, length, refl, sym, ap, subst, arith, if◌then◌else◌}
use Rattle.std.specs.List.{range_with_len}
use Rattle.std.specs.Option.{option_and_then}
use Rattle.std.proofs.lemmas.List.{length-map}
use Rattle.std.proofs.lemmas.List.FromFn.{length-range_with_len}
use Rattle.vortex_errors.specs.declared.error.VortexError.TheVariants.{InvalidColumn}
use Rattle.vortex_types.specs.LogicalTypes.{LogicalType, text_type}
use Rattle.vortex_types.specs.Values.{Value}
use Rattle.vortex_columns.specs.ColumnView.{ColumnView}
use Rattle.vortex_cells.specs.Cells.{cell_apart, cells_apart}
use Rattle.vortex_cells.specs.CellValues.{all_some, with_first, cell_value, cell_values, column_of}
use Rattle.vortex_cells.specs.CellValues.{column_from, column_where, fit_column}
use Rattle.vortex_cells.specs.Fields.{field_cell}
use Rattle.vortex_logical.specs.declared.kind.Kind.{Kind}
use Rattle.vortex_logical.specs.declared.kind.Kind.TheVariants.{Plain, Date, Timestamp, Decimal, F64, F32}
use Rattle.vortex_logical_cells.specs.StoredTexts.{IsFirstWithout, MakeNoColumn}
use Rattle.rowfn_batches.specs.Fields.{Field}
use Rattle.rowfn_batches.specs.Showing.{own_texts, ShowsKind, ShowsValues, LacksText, IsNotShown}

-- where none is missing there are as many
all_count : {A : Type 0} (os : List (Option A)) (xs : List A) → all_some os ≡ Some xs
    → length xs ≡ length os
all_count [] xs e = let same : xs ≡ [] = cc in ap length same
all_count {A} (o ∷ os) xs e = by o (all_some os) (λ ys h. all_count os ys h) e
  where
    by : (p : Option A) (r : Option (List A))
        → ((ys : List A) → r ≡ Some ys → length ys ≡ length os) → with_first p r ≡ Some xs
        → length xs ≡ length (o ∷ os)
    by None r h f = cc
    by (Some x) None h f = cc
    by (Some x) (Some ys) h f =
        let same : xs ≡ x ∷ ys = cc in omega (arith, ap length same, h ys refl)

where_count : (t : LogicalType) (o : Option (List Value)) (s : ColumnView)
    → Some s ≡ option_and_then (column_where t) o → (vs : List Value) × (o ≡ Some vs) × (s.rows ≡ vs)
where_count t None s e = cc
where_count t (Some vs) s e = (vs, refl, by (fit_column vs) e)
  where
    by : (b : Bool) → Some s ≡ (if b then Some (column_of t vs) else None) → s.rows ≡ vs
    by false f = cc
    by true f =
        let same : s ≡ column_of t vs = cc in ap (λ (c : ColumnView). c.rows) same

from_count : (t : LogicalType) (o : Option (List (Option (List ℕ)))) (s : ColumnView) (n : ℕ)
    → ((cs : List (Option (List ℕ))) → o ≡ Some cs → length cs ≡ n)
    → Some s ≡ option_and_then (column_from t) o → length s.rows ≡ n
from_count t None s n h e = cc
from_count t (Some cs) s n h e =
    let found = where_count t (cell_values t cs) s e in
    let values = all_count (map (cell_value t) cs) found.0 found.1 in
    omega (arith, ap length found.2, values, length-map cs (cell_value t), h cs refl)

module _ (w : ℕ) (fs : List Field) (n : ℕ) where
  own_count : (j : ℕ) (s : ColumnView) → Some s ≡ own_texts w fs n j → length s.rows ≡ n
  own_count j s e =
      let cells = cells_apart fs w n j in
      from_count (text_type true) (all_some (map field_cell cells)) s n
      (λ cs h. omega (
        arith,
        all_count (map field_cell cells) cs h,
        length-map cells field_cell,
        length-map (range_with_len 0 n) (cell_apart fs w j),
        length-range_with_len 0 n,
      ))
      e

  kind_long : (k : Kind) (j : Option ℕ) (v s : ColumnView) → ShowsKind w fs n k j v s
      → n ≤ length s.rows
  kind_long k (Some j) v s h = omega (arith, own_count j s h)
  kind_long k None v s h = omega (arith, h.count)

  -- what is shown has the rows
  pub shown_long : (k : Kind) (j : Option ℕ) (v s : ColumnView) → ShowsValues w fs n k j v s
      → n ≤ length v.rows → n ≤ length s.rows
  shown_long Plain j v s h lt = subst (λ (c : ColumnView). n ≤ length c.rows) (sym h) lt
  shown_long Date j v s h lt = kind_long Date j v s h
  shown_long Timestamp j v s h lt = kind_long Timestamp j v s h
  shown_long (Decimal d) j v s h lt = kind_long (Decimal d) j v s h
  shown_long F64 j v s h lt = kind_long F64 j v s h
  shown_long F32 j v s h lt = kind_long F32 j v s h

  pub lacks_below : (k : Kind) (j : Option ℕ) (v : ColumnView) (i : ℕ) → LacksText w fs n k j v i
      → i < n
  lacks_below Plain j v i h = absurd h
  lacks_below Date (Some j) v i h = absurd h
  lacks_below Date None v i h = h.below
  lacks_below Timestamp (Some j) v i h = absurd h
  lacks_below Timestamp None v i h = h.below
  lacks_below (Decimal d) (Some j) v i h = absurd h
  lacks_below (Decimal d) None v i h = h.below
  lacks_below F64 (Some j) v i h = absurd h
  lacks_below F64 None v i h = h.below
  lacks_below F32 (Some j) v i h = absurd h
  lacks_below F32 None v i h = h.below

  -- of values that are not plain texts are shown, or a row has none, or they are too long
  pub shows_kind : (k : Kind) (j : Option ℕ) (v s : ColumnView) → k ≢ Plain
      → ShowsKind w fs n k j v s → ShowsValues w fs n k j v s
  shows_kind Plain j v s other h = absurd (other refl)
  shows_kind Date j v s other h = h
  shows_kind Timestamp j v s other h = h
  shows_kind (Decimal d) j v s other h = h
  shows_kind F64 j v s other h = h
  shows_kind F32 j v s other h = h

  pub lacks_kind : (k : Kind) (v : ColumnView) (i : ℕ) → k ≢ Plain
      → IsFirstWithout k v.rows n i → LacksText w fs n k None v i
  lacks_kind Plain v i other h = absurd (other refl)
  lacks_kind Date v i other h = h
  lacks_kind Timestamp v i other h = h
  lacks_kind (Decimal d) v i other h = h
  lacks_kind F64 v i other h = h
  lacks_kind F32 v i other h = h

  pub hides_own : (k : Kind) (j : ℕ) (v : ColumnView) → k ≢ Plain → None ≡ own_texts w fs n j
      → IsNotShown w fs n k (Some j) v
  hides_own Plain j v other h = absurd (other refl)
  hides_own Date j v other h = h
  hides_own Timestamp j v other h = h
  hides_own (Decimal d) j v other h = h
  hides_own F64 j v other h = h
  hides_own F32 j v other h = h

  pub hides_kind : (k : Kind) (v : ColumnView) → k ≢ Plain
      → MakeNoColumn k v.rows InvalidColumn → IsNotShown w fs n k None v
  hides_kind Plain v other h = absurd (other refl)
  hides_kind Date v other h = h
  hides_kind Timestamp v other h = h
  hides_kind (Decimal d) v other h = h
  hides_kind F64 v other h = h
  hides_kind F32 v other h = h
