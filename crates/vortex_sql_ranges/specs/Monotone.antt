-- The range of a function of one integer whose results never fall as the integer grows.
use Rattle.std.specs.Prelude.{◌&&◌, ◌||◌, List, [], ◌∷◌, Option, Some, None, Bool, true, false, not}
use Rattle.std.specs.Prelude.{is_some, option_map}
use Rattle.vortex_types.specs.declared.dtype.PType.TheVariants.{I64}
use Rattle.vortex_types.specs.LogicalTypes.{LogicalType}
use Rattle.vortex_types.specs.Values.{Value, number}
use Rattle.vortex_interface.specs.Outcomes.{Outcome, gives, faults}
use Rattle.vortex_sql_dates.specs.declared.parts.Part.{Part}
use Rattle.vortex_sql_dates.specs.declared.parts.Part.TheVariants as part
use Rattle.vortex_sql_rows.specs.Row.{Row}
use Rattle.vortex_sql_rows.specs.Shapes.{number_in}
use Rattle.vortex_ranges.specs.Ranges.{RangeView}
use Rattle.vortex_ranges.specs.ShippedCalls.{of_one}
use Rattle.vortex_ranges.specs.TypeRanges.{narrowed}

-- the number that a row returns, if it returns one
abbrev pub number_given : Outcome → Option Value
number_given (gives v) = option_map number (number_in v)
number_given (faults x) = None

-- what a function returns of an end, where both are numbers. Such a function returns the same of a
-- number, whichever integer type that has.
abbrev pub end_after : Row → Option Value → Option Value
end_after row (Some (number z)) = number_given (row.of I64 (number z ∷ []))
end_after row end = None

-- each result lies between those of the ends; and where both ends have one, each value between has
abbrev pub monotone : Row → RangeView → RangeView
monotone row r = record {
  may_fault =
      r.may_be_value
      && not (row.infallible
      || (is_some (end_after row r.low) && is_some (end_after row r.high)));
  may_be_null = r.may_be_null;
  may_be_value = r.may_be_value;
  low = end_after row r.low;
  high = end_after row r.high;
}

-- of a call of that type, whose ends hold where no others are known
abbrev pub monotone_range : Row → LogicalType → List RangeView → RangeView
monotone_range row t rs = of_one (λ r. narrowed t (monotone row r)) rs

-- the parts of dates and timestamps that never fall as these grow
abbrev pub is_monotone : Part → Bool
is_monotone part.Year = true
is_monotone part.Epoch = true
is_monotone p = false
