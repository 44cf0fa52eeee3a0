-- What is known of the fields of a column, field by field.
use Rattle.std.specs.Prelude.{false, ◌&&◌, ◌||◌, not, List, is_some, if◌then◌else◌}
use Rattle.vortex_types.specs.LogicalTypes.{bool_type, text_type}
use Rattle.vortex_logical.specs.declared.kind.Kind.TheVariants.{Date, Timestamp}
use Rattle.rowfn_queries.specs.declared.inference.Seen.{Seen}
use Rattle.rowfn_queries.specs.ColumnTypes.{KindedType, plain}
use Rattle.rowfn_queries.specs.Inference.{Field, holds, hold, has_value, has_null, is_number}
use Rattle.rowfn_queries.specs.Inference.{are_numbers, is_numeric, are_numeric, is_of_kind, are_of_kind}
use Rattle.rowfn_queries.specs.Inference.{first_type}

abbrev pub seen : List Field → Seen
seen fs = record {
  is_bool = hold (bool_type false) fs;
  is_integer = are_numbers fs;
  is_real = are_numeric fs;
  is_date = are_of_kind Date fs;
  is_timestamp = are_of_kind Timestamp fs;
  has_null = has_null fs;
  has_value = has_value fs;
}

-- with one field more
abbrev pub seen_with : Seen → Field → Seen
seen_with s f = record {
  is_bool = s.is_bool && holds (bool_type false) f;
  is_integer = s.is_integer && is_number f;
  is_real = s.is_real && is_numeric f;
  is_date = s.is_date && is_of_kind Date f;
  is_timestamp = s.is_timestamp && is_of_kind Timestamp f;
  has_null = s.has_null || not (is_some f);
  has_value = s.has_value || is_some f;
}

abbrev pub type_seen : Seen → KindedType
type_seen s =
    if s.has_value
    then first_type s.is_bool s.is_integer s.is_real s.is_date s.is_timestamp s.has_null
    else plain (text_type s.has_null)
