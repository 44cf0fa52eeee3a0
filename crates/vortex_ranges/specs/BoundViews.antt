-- The views of an end, and of a range.
use Rattle.std.specs.Prelude.{Option, option_map}
use Rattle.vortex_types.specs.Values.{Value, truth, number, text, bytes}
use Rattle.vortex_ranges.specs.declared.bound.Bound.{Bound}
use Rattle.vortex_ranges.specs.declared.bound.Bound.TheVariants as bound
use Rattle.vortex_ranges.specs.declared.range.Range.{Range}
use Rattle.vortex_ranges.specs.Ranges.{RangeView}

abbrev pub bound_value : Bound → Value
bound_value (bound.Bool b) = truth b
bound_value (bound.Int z) = number z
bound_value (bound.Text bs) = text bs.now
bound_value (bound.Bytes bs) = bytes bs.now

abbrev pub end_of : Option Bound → Option Value
end_of = option_map bound_value

abbrev pub range_of : Range → RangeView
range_of r = record {
  may_fault = r.may_fault;
  may_be_null = r.may_be_null;
  may_be_value = r.may_be_value;
  low = end_of r.low;
  high = end_of r.high;
}
