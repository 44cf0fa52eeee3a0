-- The parts of a date and of a time that a format has, each once.
use Rattle.std.specs.Prelude.{◌&&◌, ◌||◌, ℕ, [], ◌∷◌, Bool, false, List, Option, Some, None}
use Rattle.std.specs.Prelude.{is_none, is_some, option_and_then}
use Rattle.std.specs.Option.{option_map_or, option_or}
use Rattle.vortex_sql_date_formats.specs.declared.fields.Fields.{Fields}
use Rattle.vortex_sql_date_formats.specs.declared.items.FormatItem.{FormatItem}
use Rattle.vortex_sql_date_formats.specs.declared.items.FormatItem.TheVariants as item
use Rattle.vortex_sql_date_formats.specs.declared.items.FormatPart.{FormatPart}
use Rattle.vortex_sql_date_formats.specs.declared.items.FormatPart.TheVariants as part

abbrev pub no_fields : Fields
no_fields = record {
  year = None;
  month = None;
  day = None;
  hour = None;
  half_hour = None;
  half = None;
  minute = None;
  second = None;
  micros = None;
}

-- none where the field was filled before
abbrev pub unless_filled : Option ℕ → Fields → Option Fields
unless_filled None f = Some f
unless_filled (Some n) f = None

-- a time has one hour, of the day or of half of it
abbrev pub hour_before : Fields → Option ℕ
hour_before f = option_or f.hour f.half_hour

-- the fields with the number of a part; some parts are only written
abbrev pub filled_part : FormatPart → ℕ → Fields → Option Fields
filled_part part.Year n f = unless_filled f.year (record f { year = Some n })
filled_part part.ShortYear n f = unless_filled f.year (record f { year = Some n })
filled_part part.Month n f = unless_filled f.month (record f { month = Some n })
filled_part part.Day n f = unless_filled f.day (record f { day = Some n })
filled_part part.Hour n f = unless_filled (hour_before f) (record f { hour = Some n })
filled_part part.HalfDayHour n f = unless_filled (hour_before f) (record f { half_hour = Some n })
filled_part part.Minute n f = unless_filled f.minute (record f { minute = Some n })
filled_part part.Second n f = unless_filled f.second (record f { second = Some n })
filled_part part.Millisecond n f = unless_filled f.micros (record f { micros = Some n })
filled_part part.Microsecond n f = unless_filled f.micros (record f { micros = Some n })
filled_part p n f = None

abbrev pub filled : FormatItem → ℕ → Fields → Option Fields
filled (item.Part p) n f = filled_part p n f
filled (item.Month l) n f = unless_filled f.month (record f { month = Some n })
filled (item.BareMonth l) n f = unless_filled f.month (record f { month = Some n })
filled (item.ShortMonth l) n f = unless_filled f.month (record f { month = Some n })
filled (item.HalfDay l) n f = unless_filled f.half (record f { half = Some n })
filled (item.Literal b) n f = Some f
filled i n f = None

-- the fields that items fill, all with 0
abbrev pub planned : List FormatItem → Fields → Option Fields
planned [] f = Some f
planned (i ∷ is) f = option_and_then (planned is) (filled i 0 f)

-- there is a year, and the half of the day only beside an hour of it
abbrev pub are_enough : Fields → Bool
are_enough f = is_some f.year && (is_none f.half || is_some f.half_hour)

-- texts can be read by the items: they fill enough fields, and none twice
abbrev pub is_readable : List FormatItem → Bool
is_readable is = option_map_or are_enough (planned is no_fields) false
