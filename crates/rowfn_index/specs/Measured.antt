-- What an index says of a column of a chunk.
use Rattle.std.specs.Prelude.{◌≡◌, ℕ, ⊤, true, Option, Some, None, false, option_map}
use Rattle.vortex_types.specs.LogicalTypes.{LogicalType}
use Rattle.vortex_types.specs.Values.{Value}
use Rattle.vortex_types.specs.ValueOf.{value_of}
use Rattle.vortex_types.specs.declared.scalar_value.ScalarValue.{ScalarValue}
use Rattle.vortex_statistics.specs.StatisticsView.{EndView, StatisticsView, is_at_most}
use Rattle.rowfn_index.specs.declared.measured.ColumnEnds.{ColumnEnds}

-- an end that no row need have
abbrev pub outer_view : ScalarValue → EndView
outer_view v = record { value = value_of v; attained = false }

-- of a column of a type, of n rows
abbrev pub ends_view : LogicalType → ℕ → ColumnEnds → StatisticsView
ends_view t n ends =
    record {
      dtype = t;
      rows = Some n;
      nulls = Some ends.nulls;
      low = option_map outer_view ends.low;
      high = option_map outer_view ends.high;
      skips_nan = false;
    }

-- an end that is told is not above one that is known, or not below it
abbrev pub LiesBelow : Option ScalarValue → Option EndView → Type 0
LiesBelow None e = ⊤
LiesBelow (Some v) None = ⊥
LiesBelow (Some v) (Some e) = is_at_most (value_of v) e.value ≡ true

abbrev pub LiesAbove : Option ScalarValue → Option EndView → Type 0
LiesAbove None e = ⊤
LiesAbove (Some v) None = ⊥
LiesAbove (Some v) (Some e) = is_at_most e.value (value_of v) ≡ true
