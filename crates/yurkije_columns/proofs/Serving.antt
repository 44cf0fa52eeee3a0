-- The columns so far serve, and one column more, or the first that does not.
use Rattle.std.proofs.Common.{◌≡◌, ◌+◌, ◌<◌, ℕ, List, [], ◌∷◌, ◌++◌, map, length, take, get_or}
use Rattle.std.proofs.Common.{sym, ap, subst, ◌∙◌, below_more, Option, Some, None}
use Rattle.std.specs.Prelude.{slice_get}
use Rattle.std.proofs.lemmas.Option.{slice_get-get_or}
use Rattle.std.proofs.lemmas.List.{take_more, map_push}
use Rattle.vortex_types.specs.LogicalTypes.{LogicalType, Fields, field_count, field_type}
use Rattle.vortex_columns.specs.ColumnView.{ColumnView}
use Rattle.vortex_arrow.specs.declared.column.ArrowColumn.{ArrowColumn}
use Rattle.vortex_logical.specs.declared.kind.Kind.{Kind}
use Rattle.yurkije_columns.specs.Kinds.{number_at}
use Rattle.yurkije_columns.specs.declared.batch.ColumnFault.{ColumnFault}
use Rattle.yurkije_columns.specs.Batches.{Serves, ServesIfRead, RefusesIfRead, FirstServe}
use Rattle.yurkije_columns.specs.Batches.{RefusesColumn, RefusesBatch, batch_column, wrong}

module _ (scope : Fields) (kinds : List Kind) (n : ℕ) (cs : List (Option ArrowColumn)) where
  pub wrong_at : (k : ℕ) (d : Option ArrowColumn) (t : LogicalType) (m : ℕ) (f : ColumnFault)
      → k < length cs → length cs ≡ field_count scope → t ≡ field_type k scope
      → m ≡ number_at kinds k → RefusesIfRead t m n (get_or cs k d) f → FirstServe scope kinds n cs k
      → RefusesBatch scope kinds n cs (record { column = k; fault = f })
  wrong_at k d t m f below each is means refused before =
      go (get_or cs k d) (slice_get-get_or cs k d below) refused
    where
      go : (o : Option ArrowColumn) → slice_get cs k ≡ Some o → RefusesIfRead t m n o f
          → RefusesBatch scope kinds n cs (record { column = k; fault = f })
      go None there r = absurd r
      go (Some c) there r =
          wrong (record {
            each = each;
            column = c;
            there = there;
            refused = subst (λ u. RefusesColumn u (number_at kinds k) n c f) is
                (subst (λ u. RefusesColumn t u n c f) means r);
            before = before;
          })

  pub first_serve_more : (k : ℕ) (d : Option ArrowColumn) (t : LogicalType) (m : ℕ) → k < length cs
      → t ≡ field_type k scope → m ≡ number_at kinds k → ServesIfRead t m n (get_or cs k d)
      → FirstServe scope kinds n cs k → FirstServe scope kinds n cs (k + 1)
  first_serve_more k d t m below is means serves before =
      below_more _ _ before
      (λ c there. go (get_or cs k d) c (slice_get-get_or cs k d below) there serves)
    where
      go : (o : Option ArrowColumn) (c : ArrowColumn) → slice_get cs k ≡ Some o
          → slice_get cs k ≡ Some (Some c) → ServesIfRead t m n o
          → Serves (field_type k scope) (number_at kinds k) n c
      go None c at there s = let none : Some None ≡ Some (Some c) = sym at ∙ there in cc
      go (Some b) c at there s =
          let same : b ≡ c = cc in
          subst (λ (x : ArrowColumn). Serves (field_type k scope) (number_at kinds k) n x) same
          (subst (λ u. Serves u (number_at kinds k) n b) is (subst (λ u. Serves t u n b) means s))

pub read_more : (n : ℕ) (cs : List (Option ArrowColumn)) (read : List ColumnView) (k : ℕ)
    (d : Option ArrowColumn) (c : ColumnView) → k < length cs
    → read ≡ map (batch_column n) (take k cs) → c ≡ batch_column n (get_or cs k d)
    → read ++ c ∷ [] ≡ map (batch_column n) (take (k + 1) cs)
read_more n cs read k d c below so_far is =
    ap (λ (xs : List ColumnView). xs ++ c ∷ []) so_far
    ∙ ap (λ (x : ColumnView). map (batch_column n) (take k cs) ++ x ∷ []) is
    ∙ sym (map_push (batch_column n) (take k cs) (get_or cs k d))
    ∙ ap (map (batch_column n)) (sym (take_more cs k d below))
