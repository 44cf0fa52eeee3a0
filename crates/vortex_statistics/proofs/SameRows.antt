-- Extremes of rows that are all the same.
use Rattle.std.proofs.Common.{◌≡◌, ◌<◌, ℕ, true, not, List, ap, ◌∙◌, length, arith}
use Rattle.std.proofs.lemmas.List.FromFn.{get_or-map-range_with_len}
use Rattle.vortex_types.specs.ScalarView.{ScalarView}
use Rattle.vortex_types.specs.Values.{Value, null, is_null}
use Rattle.vortex_columns.specs.ColumnView.{ColumnView, row, constant_column}
use Rattle.vortex_statistics.specs.StatisticsView.{is_at_most}
use Rattle.vortex_statistics.specs.Extremes.{AreExtremeRows, IsCounted}
use Rattle.vortex_statistics.proofs.ValueOrder.{at_most_itself}

both_at : (v w v' w' : Value) → v' ≡ v → w' ≡ w → is_at_most v w ≡ true → is_at_most v' w' ≡ true
both_at v w v' w' e f h = (λ i. is_at_most (e i) (f i)) ∙ h

-- rows that are all the same
pub same_rows : (vs : List Value) (v : Value) (first : ℕ)
    → ((i : ℕ) → i < length vs → row vs i ≡ v)
    → IsCounted (length vs) (λ i. not (is_null (row vs i))) first
    → AreExtremeRows vs first first
same_rows vs v first is c =
    record {
      low_row = c;
      high_row = c;
      above = λ i lt h.
          both_at v v (row vs first) (row vs i) (is first c.within) (is i lt) (at_most_itself v);
      below = λ i lt h.
          both_at v v (row vs i) (row vs first) (is i lt) (is first c.within) (at_most_itself v);
    }

-- each row of a constant column is its value
pub constant_rows : (c : ColumnView) (s : ScalarView) → c ≡ constant_column s (length c.rows)
    → (i : ℕ) → i < length c.rows → row c.rows i ≡ s.value
constant_rows c s e i lt =
    ap (λ d. row d.rows i) e
    ∙ get_or-map-range_with_len (λ _. s.value) 0 (length c.rows) i i null lt (omega arith)
