-- What the type alone says of a value.
use Rattle.std.specs.Prelude.{◌&&◌, [], Bool, true, false, Option, Some, None}
use Rattle.vortex_types.specs.LogicalTypes.{LogicalType, bool_type, integer_type}
use Rattle.vortex_types.specs.LogicalTypes.{text_type, bytes_type, is_nullable}
use Rattle.vortex_types.specs.Typing.{least_of, greatest_of}
use Rattle.vortex_types.specs.Values.{Value, truth, number, text, bytes}
use Rattle.vortex_ranges.specs.Ranges.{RangeView}

-- the least value of the type, where there is one that is known
abbrev pub least : LogicalType → Option Value
least (bool_type n) = Some (truth false)
least (integer_type p n) = Some (number (least_of p))
least (text_type n) = Some (text [])
least (bytes_type n) = Some (bytes [])
least t = None

abbrev pub greatest : LogicalType → Option Value
greatest (bool_type n) = Some (truth true)
greatest (integer_type p n) = Some (number (greatest_of p))
greatest t = None

-- the first end that is known
abbrev pub known_or : Option Value → Option Value → Option Value
known_or (Some v) w = Some v
known_or None w = w

-- any value of the type
abbrev pub of_type : Bool → LogicalType → RangeView
of_type may_fault t = record {
  may_fault = may_fault;
  may_be_null = is_nullable t;
  may_be_value = true;
  low = least t;
  high = greatest t;
}

-- the same range, of values of the type
abbrev pub narrowed : LogicalType → RangeView → RangeView
narrowed t r = record {
  may_fault = r.may_fault;
  may_be_null = r.may_be_null && is_nullable t;
  may_be_value = r.may_be_value;
  low = known_or r.low (least t);
  high = known_or r.high (greatest t);
}
