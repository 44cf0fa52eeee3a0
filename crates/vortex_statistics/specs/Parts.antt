-- The view of the parts of statistics.
use Rattle.std.specs.Prelude.{option_map}
use Rattle.vortex_types.specs.TypeOf.{type_of}
use Rattle.vortex_types.specs.ValueOf.{value_of}
use Rattle.vortex_statistics.specs.declared.end.End.{End}
use Rattle.vortex_statistics.specs.declared.parts.Parts.{Parts}
use Rattle.vortex_statistics.specs.StatisticsView.{EndView, StatisticsView}

abbrev pub end_view : End → EndView
end_view e = record { value = value_of e.value; attained = e.attained }

abbrev pub parts_view : Parts → StatisticsView
parts_view p =
    record {
      dtype = type_of p.dtype;
      rows = p.rows;
      nulls = p.nulls;
      low = option_map end_view p.low;
      high = option_map end_view p.high;
      skips_nan = p.skips_nan;
    }
