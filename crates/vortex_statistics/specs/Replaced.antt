-- Other counts and ends in place of those that are known.
use Rattle.std.specs.Prelude.{ℕ, Option}
use Rattle.vortex_statistics.specs.StatisticsView.{EndView, StatisticsView}

-- with as many rows and nulls, and these ends
abbrev pub replaced : StatisticsView → Option ℕ → Option ℕ → Option EndView → Option EndView
    → StatisticsView
replaced s rows nulls low high = record {
  dtype = s.dtype;
  rows = rows;
  nulls = nulls;
  low = low;
  high = high;
  skips_nan = s.skips_nan;
}
