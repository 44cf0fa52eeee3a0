-- What names mean where an argument is a value of a kind, in either case.
use Rattle.std.specs.Prelude.{ℕ, List, Option, Some, None, ◌||◌, codes, if◌then◌else◌}
use Rattle.std.specs.Option.{option_or}
use Rattle.vortex_syntax.specs.Keywords.{same_word}
use Rattle.vortex_sql_float_functions.specs.declared.functions.FloatFunction.{FloatFunction}
use Rattle.vortex_sql_float_functions.specs.declared.functions.FloatFunction.TheVariants as float
use Rattle.vortex_sql_dates.specs.declared.parts.Part.{Part}
use Rattle.vortex_sql_dates.specs.declared.parts.Part.TheVariants as part
use Rattle.vortex_sql_dates.specs.declared.truncations.Unit as units
use Rattle.vortex_sql_dates.specs.declared.truncations.Unit.TheVariants as unit
use Rattle.vortex_expressions.specs.declared.kind_words.KindFunction.TheVariants.{OfFloat, OfPart}
use Rattle.vortex_expressions.specs.declared.kind_words.KindFunction.TheVariants.{ToName}
use Rattle.vortex_expressions.specs.declared.kind_words.Named.TheVariants as named
use Rattle.vortex_expressions.specs.declared.kind_words.KindName.{KindName}
use Rattle.vortex_expressions.specs.declared.kind_words.KindName.TheVariants.{Single, PartByText}
use Rattle.vortex_expressions.specs.declared.kind_words.KindName.TheVariants.{UnitByText, AddMonths, ToChar}

abbrev pub float_word : List ℕ → Option FloatFunction
float_word w =
    if same_word w (codes "round") then Some float.Round
    else (if same_word w (codes "floor") then Some float.Floor
    else (if same_word w (codes "ceil") || same_word w (codes "ceiling") then Some float.Ceil
    else (if same_word w (codes "trunc") then Some float.Trunc
    else (if same_word w (codes "sqrt") then Some float.Sqrt
    else (if same_word w (codes "abs") then Some float.Abs
    else (if same_word w (codes "sign") then Some float.Sign
    else None))))))

-- a part of a date
abbrev pub date_word : List ℕ → Option Part
date_word w =
    if same_word w (codes "year") then Some part.Year
    else (if same_word w (codes "quarter") then Some part.Quarter
    else (if same_word w (codes "month") then Some part.Month
    else (if same_word w (codes "week") || same_word w (codes "weekofyear") then Some part.Week
    else (if same_word w (codes "day") || same_word w (codes "dayofmonth") then Some part.Day
    else (if same_word w (codes "dow") then Some part.DayOfWeek
    else (if same_word w (codes "isodow") then Some part.IsoDayOfWeek
    else (if same_word w (codes "doy") || same_word w (codes "dayofyear")
    then Some part.DayOfYear
    else None)))))))

-- a part of a time
abbrev pub time_word : List ℕ → Option Part
time_word w =
    if same_word w (codes "epoch") then Some part.Epoch
    else (if same_word w (codes "hour") then Some part.Hour
    else (if same_word w (codes "minute") then Some part.Minute
    else (if same_word w (codes "second") then Some part.Second
    else (if same_word w (codes "milliseconds") then Some part.Millisecond
    else (if same_word w (codes "microseconds") then Some part.Microsecond
    else None)))))

abbrev pub part_word : List ℕ → Option Part
part_word w = option_or (date_word w) (time_word w)

-- a unit to which values are truncated
abbrev pub unit_word : List ℕ → Option units.Unit
unit_word w =
    if same_word w (codes "year") then Some unit.Year
    else (if same_word w (codes "quarter") then Some unit.Quarter
    else (if same_word w (codes "month") then Some unit.Month
    else (if same_word w (codes "week") then Some unit.Week
    else (if same_word w (codes "day") then Some unit.Day
    else (if same_word w (codes "hour") then Some unit.Hour
    else (if same_word w (codes "minute") then Some unit.Minute
    else (if same_word w (codes "second") then Some unit.Second
    else None)))))))

-- the name of a day of the week, of a month
abbrev pub name_word : List ℕ → Option KindName
name_word w =
    if same_word w (codes "dayname") then Some (Single (ToName named.Day))
    else (if same_word w (codes "monthname") then Some (Single (ToName named.Month)) else None)

-- a function of a text and a value, or of a value and a number of months or a format
abbrev pub texted_word : List ℕ → Option KindName
texted_word w =
    if same_word w (codes "extract") || same_word w (codes "date_part") then Some PartByText
    else (if same_word w (codes "date_trunc") then Some UnitByText
    else (if same_word w (codes "add_months") then Some AddMonths
    else (if same_word w (codes "to_char") then Some ToChar else name_word w)))

abbrev pub first_meaning : Option FloatFunction → Option Part → Option KindName → Option KindName
first_meaning (Some f) p o = Some (Single (OfFloat f))
first_meaning None (Some p) o = Some (Single (OfPart p))
first_meaning None None o = o

-- a part is a function of its name too
abbrev pub kind_word : List ℕ → Option KindName
kind_word w = first_meaning (float_word w) (part_word w) (texted_word w)
