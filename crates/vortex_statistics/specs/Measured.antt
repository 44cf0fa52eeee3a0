-- Statistics that a column's rows give.
use Rattle.std.specs.Prelude.{◌≡◌, ◌<◌, ℕ, Bool, true, false, not, Option, Some}
use Rattle.std.specs.Prelude.{MatchOption, SomeIndex, IfSome, count_by, length}
use Rattle.vortex_types.specs.Values.{is_null}
use Rattle.vortex_columns.specs.ColumnView.{ColumnView, row}
use Rattle.vortex_statistics.specs.StatisticsView.{EndView, StatisticsView, IsEndOf}
use Rattle.vortex_statistics.specs.StatisticsView.{are_in_order}
use Rattle.vortex_statistics.specs.Describes.{IsLowEnd, IsHighEnd}
use Rattle.vortex_statistics.specs.Extremes.{is_measured}

-- a column of a type whose ends are looked for, with a row that is not null
pub record HasValues (c : ColumnView) : Type 0 where
  pub measured : is_measured c.dtype ≡ true
  pub value : SomeIndex c.rows (λ i. is_null (row c.rows i) ≡ false)

-- an attained end, exactly where the column has values
abbrev pub IsTold : ColumnView → Option EndView → Type 0
IsTold c e = MatchOption e (¬ HasValues c) (λ e. HasValues c × (e.attained ≡ true))

-- both counts are known, and the ends where the column has values
pub record Measures (c : ColumnView) (s : StatisticsView) : Type 0 where
  pub dtype : s.dtype ≡ c.dtype
  pub rows : s.rows ≡ Some (length c.rows)
  pub nulls : s.nulls ≡ Some (count_by is_null c.rows)
  pub low : IsTold c s.low
  pub high : IsTold c s.high
  pub skips_nan : s.skips_nan ≡ false

-- a bit for each row, which is set where the row is not null
pub record Marks (c : ColumnView) (has : ℕ → Type 0) (bit : ℕ → Bool) : Type 0 where
  pub there : (i : ℕ) → i < length c.rows → has i
  pub told : (i : ℕ) → i < length c.rows → bit i ≡ not (is_null (row c.rows i))

-- the ends of a column's rows, attained where it has values
pub record AreEndsOf (c : ColumnView) (low high : Option EndView) : Type 0 where
  pub low_told : IsTold c low
  pub high_told : IsTold c high
  pub low_end : IfSome low (λ e. IsEndOf c.dtype e × IsLowEnd false c.rows e)
  pub high_end : IfSome high (λ e. IsEndOf c.dtype e × IsHighEnd false c.rows e)
  pub ordered : are_in_order low high ≡ true

-- the value of a row as an end
abbrev pub end_at : ColumnView → ℕ → EndView
end_at c i = record { value = row c.rows i; attained = true }

-- statistics with both counts of a column
abbrev pub measured : ColumnView → Option EndView → Option EndView → StatisticsView
measured c low high =
    record {
      dtype = c.dtype;
      rows = Some (length c.rows);
      nulls = Some (count_by is_null c.rows);
      low = low;
      high = high;
      skips_nan = false;
    }
