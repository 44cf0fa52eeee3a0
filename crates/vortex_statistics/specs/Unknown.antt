-- Statistics of which nothing is known but the type.
use Rattle.std.specs.Prelude.{List, None, false}
use Rattle.vortex_types.specs.LogicalTypes.{LogicalType}
use Rattle.vortex_types.specs.Values.{Value}
use Rattle.vortex_columns.specs.ColumnView.{AreTyped}
use Rattle.vortex_statistics.specs.StatisticsView.{StatisticsView}
use Rattle.vortex_statistics.specs.Describes.{Describes}

abbrev pub unknown : LogicalType → StatisticsView
unknown t =
    record {
      dtype = t;
      rows = None;
      nulls = None;
      low = None;
      high = None;
      skips_nan = false;
    }

-- s describes each column of the type
abbrev pub DescribesAny : LogicalType → StatisticsView → Type 0
DescribesAny t s = (vs : List Value) → AreTyped t vs → Describes s vs
